-- LEDGER and LINKS are kept where a GRANT or the TOKEN arrives: a lender other than its sender is paid back first.
use Rattle.std.specs.Prelude.{◌≡◌, refl, ◌≢◌, ◌⊎◌, List, [], ◌∷◌, ◌++◌, ℕ, zero, suc, ◌≤◌, ◌<◌, length}
use Rattle.std.proofs.Common.{sym, ◌∙◌, ap, inl, ⊎_elim, append-nil, not-suc-le-zero, le_of_suc-le-suc, length-append}
use mathlib.Core.List.Memᴰ
use native.Mathlib.Omega.{arith}
use Rattle.std.proofs.Math.ListN.{get_or-append}
use Rattle.base.specs.Lists.{Mem, mem-snoc, mem-at, remove}
use Rattle.std.specs.Prelude.{Option}
use Rattle.std.specs.Prelude.{Some, None}
use Rattle.room.specs.declared.Room.{Room}
use Rattle.room.specs.declared.Reduce.{Reduce}
use Rattle.room.specs.Limits.{room_limit}
use Rattle.room.specs.Record.{with_modes, with_debt, lender_of, lender_in}
use Rattle.room.specs.Rules.{credited, tokened_by}
use Rattle.room.proofs.Lenders.{lends-other, lender-low}
use Rattle.table.specs.declared.Wire.{Wire}
use Rattle.table.specs.declared.Message.{Message}
use Rattle.table.specs.declared.Message.TheVariants as msg
use Rattle.table.specs.Tables.{no_wire}
use Rattle.table.specs.Oldest.{between}
use Rattle.facts.specs.Rooms.{RoomFacts}
use Rattle.facts.specs.Wires.{wire, sent_by, leaving_sent}
use Rattle.facts.specs.Cases.{leaving-send}
use Rattle.kept.specs.Changed.{changed, changed-same, changed-other}
use Rattle.ledger.specs.Loans.{Ledger}
use Rattle.ledger.specs.Links.{Links}
use Rattle.ledger.proofs.Lends.{ledger-pay}
use Rattle.ledger.proofs.Takes.{Oldest, ledger-grant, ledger-token}
use Rattle.ledger.proofs.Received.{links-pay, links-grant, links-token}

-- what stands before the end is taken off as if the end were not there
remove-front : (l : List Wire) (x : Wire) (k : ℕ) → k < length l → remove k (l ++ (x ∷ [])) ≡ remove k l ++ (x ∷ [])
unfolding remove
remove-front [] x k h = absurd (not-suc-le-zero h)
remove-front (y ∷ l) x zero h = refl
remove-front (y ∷ l) x (suc k) h = ap (λ (r : List Wire). y ∷ r) (remove-front l x k (le_of_suc-le-suc h))

-- a message more does not change which is the oldest
oldest-front : (messages : List Wire) (x : Wire) (k a me : ℕ) (m : Message) → Oldest messages k a me m → Oldest (messages ++ (x ∷ [])) k a me m
oldest-front messages x k a me m o =
    record {
      low = simp length-append (omega (arith, o.low));
      there = get_or-append messages (x ∷ []) no_wire k o.low ∙ o.there;
      first = λ j l. ap (between a me) (get_or-append messages (x ∷ []) no_wire j (omega (arith, o.low))) ∙ o.first j l;
    }

module _ (n : ℕ) (old new : ℕ → Room) (messages : List Wire) (me : ℕ) (low : me < n) (others : (c : ℕ) → c ≢ me → new c ≡ old c)
    (small : n ≤ room_limit) (facts : RoomFacts n me (old me)) (senders : (w : Wire) → Mem w messages → w.«from» < n)
    (ledger : Ledger n old messages) (links : Links n old messages) (k a : ℕ) (from_low : a < n) (other : a ≢ me)
    (place : a < length (old me).entries) (m : Message) (o : Oldest messages k a me m)
    (alone : (w : Wire) → Mem w (remove k messages) → w.to ≡ me → (x y : ℕ) → w.message ≡ msg.Grant x y → ⊥) where
  abbrev Both : List Wire → Type 0
  Both after = Ledger n new after × Links n new after

  there : Mem (wire a me m) messages
  there = rw (← o.there) (mem-at messages k no_wire o.low)

  -- the room that owes its old lender nothing any more, and the REDUCE that says so
  abbrev paid : ℕ → Room
  paid = changed old me (with_debt (old me) None 0 0)

  abbrev reduce : Wire
  reduce = wire me (lender_of (old me)) (msg.Reduce (old me).link 0)

  paid-me : paid me ≡ with_debt (old me) None 0 0
  paid-me = changed-same old me (with_debt (old me) None 0 0)

  paid_other : (c : ℕ) → c ≢ me → paid c ≡ old c
  paid_other c e = changed-other old me (with_debt (old me) None 0 0) c e

  new-other : (c : ℕ) → c ≢ me → new c ≡ paid c
  new-other c e = others c e ∙ sym (paid_other c e)

  alone-paid : (w : Wire) → Mem w (remove k (messages ++ (reduce ∷ []))) → w.to ≡ me → (x y : ℕ) → w.message ≡ msg.Grant x y → ⊥
  alone-paid w i to x y e =
      ⊎_elim (λ j. alone w j to x y e) (λ q. reduces x y (ap (λ (w : Wire). w.message) (sym q) ∙ e))
      (mem-snoc (remove k messages) reduce (rw (remove-front messages reduce k o.low) at i))
    where
      reduces : (x y : ℕ) → msg.Reduce (old me).link 0 ≡ msg.Grant x y → ⊥
      reduces x y z = let q : ◌≡◌ {A = ℕ} 0 1 = cc in absurd (omega arith)

  pay-ledger : (old me).lender ≢ None → Ledger n paid (messages ++ (reduce ∷ []))
  unfolding credited
  pay-ledger some =
      ledger-pay n old paid messages me paid_other ledger 0 paid-me (above (old me).credit (λ e. some (facts.none-nobody e)))
      (facts.lender-low some) (lends-other (old me) me some facts.lender-other) small links
    where
      above : (c : ℕ) → c ≢ 0 → 0 < c
      above c e = omega arith

  pay-links : (old me).lender ≢ None → Links n paid (messages ++ (reduce ∷ []))
  unfolding credited
  pay-links some = links-pay n old paid messages me paid_other links 0 paid-me (facts.lender-low some) low small senders

  -- a lender that stays, and one that is paid back
  leaving-both : (((old me).lender ≡ None) ⊎ ((old me).lender ≡ Some a) → Both (remove k messages))
      → ((old me).lender ≢ None → Both (remove k (messages ++ (reduce ∷ [])))) → Both (remove k messages ++ leaving_sent me (old me) a)
  unfolding leaving_sent
  leaving-both f g =
      leaving-send (old me) a (λ (s : Option Reduce). Both (remove k messages ++ sent_by me s))
      (λ b. rw (append-nil (remove k messages)) (f b)) (λ b. rw (← remove-front messages reduce k o.low) (g b))

  -- "GRANT"
  pub granted-both : (j l : ℕ) → m ≡ msg.Grant j l → new me ≡ with_debt (with_modes (old me) j 0) (Some a) j l
      → Both (remove k messages ++ leaving_sent me (old me) a)
  granted-both j l e here =
      leaving-both
      (λ b. (
        ledger-grant n old new messages me others ledger k a other m o small b j l e (here ∙ named (old me)),
        links-grant n old new messages me others links k a m o alone j l e (here ∙ named (old me)) other there,
      ))
      (λ b. (
        ledger-grant n paid new (messages ++ (reduce ∷ [])) me new-other (pay-ledger b) k a other m later small (inl (ap (λ (r : Room). r.lender) paid-me)) j l e (now ∙ named (paid me)),
        links-grant n paid new (messages ++ (reduce ∷ [])) me new-other (pay-links b) k a m later alone-paid j l e (now ∙ named (paid me)) other (Memᴰ.append_left (reduce ∷ []) there),
      ))
    where
      later : Oldest (messages ++ (reduce ∷ [])) k a me m
      later = oldest-front messages reduce k a me m o

      now : new me ≡ with_debt (with_modes (paid me) j 0) (Some a) j l
      now = here ∙ sym (ap (λ (r : Room). with_debt (with_modes r j 0) (Some a) j l) paid-me)

      -- the lender is the room that the sender's number names
      named : (r : Room) → with_debt (with_modes r j 0) (Some a) j l ≡ with_debt (with_modes r j 0) (lender_in a) j l
      named r = ap (λ (o : Option ℕ). with_debt (with_modes r j 0) o j l) (sym (lender-low a (omega (arith, small))))

  -- "TOKEN"
  pub tokened-both : (j rest l : ℕ) → m ≡ msg.Token j rest l → new me ≡ tokened_by (old me) me a j rest l
      → Both (remove k messages ++ leaving_sent me (old me) a)
  unfolding tokened_by
  tokened-both j rest l e here =
      leaving-both
      (λ b. (
        ledger-token n old new messages me others ledger k a other m o small b j rest l e here from_low place,
        links-token n old new messages me others links k a m o alone j rest l e here small,
      ))
      (λ b. (
        ledger-token n paid new (messages ++ (reduce ∷ [])) me new-other (pay-ledger b) k a other m later small (inl (ap (λ (r : Room). r.lender) paid-me)) j rest l e now from_low
            (rw paid-me place),
        links-token n paid new (messages ++ (reduce ∷ [])) me new-other (pay-links b) k a m later alone-paid j rest l e now small,
      ))
    where
      later : Oldest (messages ++ (reduce ∷ [])) k a me m
      later = oldest-front messages reduce k a me m o

      now : new me ≡ tokened_by (paid me) me a j rest l
      now = here ∙ sym (ap (λ (r : Room). tokened_by r me a j rest l) paid-me)
