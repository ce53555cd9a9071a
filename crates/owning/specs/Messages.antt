-- Messages come and go: what is said of every message, and what a change of the messages leaves to be shown.
use Rattle.std.specs.Prelude.{◌≡◌, ◌≢◌, ◌⊎◌, Bool, false, List, [], ◌∷◌, ◌++◌, ℕ}
use Rattle.std.proofs.Math.Path.{ap}
use Rattle.std.proofs.Common.{inl, inr, ⊎_elim, arith, eq-eqb}
use mathlib.Core.List.Memᴰ
use Rattle.base.specs.Choice.{split}
use Rattle.base.specs.Tests.{clash}
use Rattle.base.specs.Sums.{one}
use Rattle.base.specs.Lists.{Mem, mem-snoc, mem-total}
use Rattle.room.specs.Record.{lender_of}
use Rattle.room.specs.declared.Room.{Room}
use Rattle.table.specs.declared.Wire.{Wire}
use Rattle.table.specs.declared.Queued.{Queued}
use Rattle.table.specs.declared.Message.{Message}
use Rattle.table.specs.declared.Message.TheVariants as msg
use Rattle.table.specs.Formed.{is_named_in, names}
use Rattle.facts.specs.Wires.{wire, leaving_sent}
use Rattle.facts.specs.Cases.{leaving-either}

-- every message after a change was there before, but for x
abbrev pub Among : List Wire → List Wire → Wire → Type 0
Among after before x = (w : Wire) → Mem w after → Mem w before ⊎ (w ≡ x)

pub sent-among : (messages : List Wire) (x : Wire) → Among (messages ++ (x ∷ [])) messages x
sent-among messages x w h = mem-snoc messages x h

-- what a room sends that gets another lender, or the token
abbrev pub leaving_wire : ℕ → Room → Wire
leaving_wire me r = wire me (lender_of r) (msg.Reduce r.link 0)

leaving-member : (me : ℕ) (r : Room) (a : ℕ) (w : Wire) → Mem w (leaving_sent me r a) → w ≡ leaving_wire me r
leaving-member me r a w =
    leaving-either me r a (λ (l : List Wire). Mem w l → w ≡ leaving_wire me r) (λ h. absurd (Memᴰ.not-nil h)) (λ e h. Memᴰ.eq_of_singleton h)

pub leaving-among : (messages : List Wire) (me : ℕ) (r : Room) (a : ℕ) → Among (messages ++ leaving_sent me r a) messages (leaving_wire me r)
leaving-among messages me r a w h = ⊎_elim (λ m. inl m) (λ m. inr (leaving-member me r a w m)) (Memᴰ.append_cases messages h)

-- the kinds of messages: two messages of different kinds are not equal
abbrev pub kind : Message → ℕ
kind msg.Nothing = 0
kind (msg.Request o m idle) = 1
kind (msg.Grant m l) = 2
kind (msg.Token m rest l) = 3
kind (msg.Reduce l m) = 4

-- nothing under way names room x: it began no REQUEST, and no GRANT or TOKEN goes to it
abbrev pub Unnamed : ℕ → List Wire → Type 0
Unnamed x messages = (w : Wire) → Mem w messages → is_named_in x w.to w.message ≡ false

module _ (x : ℕ) (messages : List Wire) where
  pub unnamed-of : (queue : List Queued) → names queue messages x ≡ 0 → Unnamed x messages
  unfolding names
  unnamed-of queue e w h =
      split (is_named_in x w.to w.message)
      (λ t. absurd (omega (arith, mem-total (λ (w : Wire). one (is_named_in x w.to w.message)) h, ap one t)))
      (λ t. t)

  module _ (u : Unnamed x messages) (w : Wire) (h : Mem w messages) where
    pub unnamed-token : w.to ≡ x → (m rest l : ℕ) → w.message ≡ msg.Token m rest l → ⊥
    unfolding is_named_in
    unnamed-token e m rest l q = clash (eq-eqb w.to x e) (rw q at (u w h))

    pub unnamed-grant : w.to ≡ x → (m l : ℕ) → w.message ≡ msg.Grant m l → ⊥
    unfolding is_named_in
    unnamed-grant e m l q = clash (eq-eqb w.to x e) (rw q at (u w h))

    pub unnamed-request : (o m : ℕ) (idle : Bool) → w.message ≡ msg.Request o m idle → o ≢ x
    unfolding is_named_in
    unnamed-request o m idle q e = clash (eq-eqb o x e) (rw q at (u w h))
