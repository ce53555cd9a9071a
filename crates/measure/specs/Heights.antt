-- WAY is kept by each change: with the same heights, or re-rooted at the receiver of a TOKEN that arrives.
use Rattle.std.specs.Prelude.{◌≡◌, ◌≢◌, ◌⊎◌, Bool, ◌&&◌, List, [], ◌∷◌, ◌++◌, ℕ, ◌+◌, ◌≤◌, ◌<◌, length, get_or}
use Rattle.std.proofs.Math.Path.{refl, sym, ap}
use Rattle.std.proofs.Common.{◌∙◌, inl, inr, eq-eqb, ne_eqb}
use native.Mathlib.Omega.{arith}
use Rattle.std.proofs.Math.Dec.{eqb}
use Rattle.base.specs.Tests.{clash}
use Rattle.base.specs.Sums.{one, same?}
use Rattle.base.specs.Ranks.{rerooted, rerooted-here, rerooted-other}
use Rattle.base.specs.Lists.{total, remove, total-append, total-snoc, total-remove, mem-at}
use Rattle.std.specs.Prelude.{Option}
use Rattle.room.specs.declared.Room.{Room}
use Rattle.room.specs.Record.{with_modes, with_debt, lender_of}
use Rattle.room.specs.Owned.{owned}
use Rattle.room.specs.Rules.{next_link, lent_to, remaining, credited, tokened_by, reduced}
use Rattle.table.specs.declared.Wire.{Wire}
use Rattle.table.specs.declared.Message.{Message}
use Rattle.table.specs.declared.Message.TheVariants as msg
use Rattle.table.specs.Tables.{no_wire}
use Rattle.table.specs.Formed.{is_token}
use Rattle.facts.specs.Wires.{wire, leaving_sent}
use Rattle.ledger.proofs.Frames.{alike}
use Rattle.ledger.specs.Links.{Sender}
use Rattle.measure.specs.Way.{passing, Leads}
use Rattle.facts.specs.Cases.{leaving-either, credited-either, reduced-either}

-- TOKENs of a room: one message more, one less, and what goes to an old lender
module _ (c : ℕ) (l : List Wire) where
  passing-sent : (a b : ℕ) (m : Message) → passing c (l ++ (wire a b m ∷ [])) ≡ passing c l + one (is_token m && eqb a c)
  unfolding passing
  passing-sent a b m = total-snoc (λ w. one (is_token w.message && eqb w.«from» c)) l (wire a b m)

  passing-taken : (k a b : ℕ) (m : Message) → k < length l → get_or l k no_wire ≡ wire a b m
      → passing c (remove k l) + one (is_token m && eqb a c) ≡ passing c l
  unfolding passing
  passing-taken k a b m inside there = omega (
    arith,
    total-remove (λ w. one (is_token w.message && eqb w.«from» c)) l k no_wire inside,
    ap (λ (w : Wire). one (is_token w.message && eqb w.«from» c)) there,
  )

  passing-leaving : (me : ℕ) (r : Room) (a : ℕ) → passing c (l ++ leaving_sent me r a) ≡ passing c l
  unfolding passing total is_token
  passing-leaving me r a = omega (
    arith,
    total-append (λ w. one (is_token w.message && eqb w.«from» c)) l (leaving_sent me r a),
    leaving-either me r a (λ s. passing c s ≡ 0) refl (λ e. refl),
  )

-- REQUESTs: the rooms are as they were.
module _ (n : ℕ) (rooms : ℕ → Room) (messages : List Wire) (height : ℕ → ℕ) (leads : Leads n rooms messages height) where
  pub leads-request-taken : (k a b o m : ℕ) (idle : Bool) → k < length messages → get_or messages k no_wire ≡ wire a b (msg.Request o m idle)
      → Leads n rooms (remove k messages) height
  unfolding is_token
  leads-request-taken k a b o m idle inside there c h t z =
      leads c h t (omega (arith, z, passing-taken c messages k a b (msg.Request o m idle) inside there))

  pub leads-request-sent : (a b o m : ℕ) (idle : Bool) → Leads n rooms (messages ++ (wire a b (msg.Request o m idle) ∷ [])) height
  leads-request-sent a b o m idle c h t z = leads c h t (omega (arith, z, passing-sent c messages a b (msg.Request o m idle)))

-- Changes of one room's record.
module _ (n : ℕ) (old new : ℕ → Room) (messages : List Wire) (me : ℕ) (others : (c : ℕ) → c ≢ me → new c ≡ old c)
    (height : ℕ → ℕ) (leads : Leads n old messages height) where
  -- the token is where it was and every room looks where it did
  still : (after : List Wire) → ((c : ℕ) → passing c messages ≤ passing c after) → (new me).token ≡ (old me).token → (new me).toward ≡ (old me).toward
      → Leads n new after height
  still after more token toward c h t z =
      rw (alike old new me others (λ r. r.toward) toward c)
      (leads c h (sym (alike old new me others (λ r. r.token) token c) ∙ t) (omega (arith, z, more c)))

  pub leads-modes : (h v : ℕ) → new me ≡ with_modes (old me) h v → Leads n new messages height
  leads-modes h v here = still messages (λ c. omega arith) (rw here refl) (rw here refl)

  pub leads-lend : (y m : ℕ) → new me ≡ lent_to (old me) y m
      → Leads n new (messages ++ (wire me y (msg.Grant m (next_link (old me).counter)) ∷ [])) height
  unfolding lent_to
  leads-lend y m here =
      still (messages ++ (wire me y (msg.Grant m (next_link (old me).counter)) ∷ []))
      (λ c. omega (arith, passing-sent c messages me y (msg.Grant m (next_link (old me).counter)))) (rw here refl) (rw here refl)

  -- the room that had the token is the sender of a TOKEN now
  pub leads-pass : (y m : ℕ)
      → Leads n new (messages ++ (wire me y (msg.Token m (remaining (old me) y) (next_link (old me).counter)) ∷ [])) height
  unfolding is_token
  leads-pass y m c h t z = go (same? c me)
    where
      sent : Message
      sent = msg.Token m (remaining (old me) y) (next_link (old me).counter)

      go : (c ≡ me) ⊎ (c ≢ me) → height (new c).toward < height c
      go (inl e) = absurd (omega (arith, z, passing-sent c messages me y sent, ap one (eq-eqb me c (sym e))))
      go (inr e) =
          rw (ap (λ (r : Room). r.toward) (others c e))
          (leads c h (sym (ap (λ (r : Room). r.token) (others c e)) ∙ t) (omega (arith, z, passing-sent c messages me y sent)))

  pub leads-settle : new me ≡ credited (old me) (owned (old me))
      → Leads n new (messages ++ (wire me (lender_of (old me)) (msg.Reduce (old me).link (owned (old me))) ∷ [])) height
  leads-settle here =
      still (messages ++ (wire me (lender_of (old me)) (msg.Reduce (old me).link (owned (old me))) ∷ []))
      (λ c. omega (arith, passing-sent c messages me (lender_of (old me)) (msg.Reduce (old me).link (owned (old me)))))
      (rw here (credited-either (old me) (owned (old me)) (λ (r : Room). r.token ≡ (old me).token) (λ e. refl) (λ e. refl)))
      (rw here (credited-either (old me) (owned (old me)) (λ (r : Room). r.toward ≡ (old me).toward) (λ e. refl) (λ e. refl)))

  pub leads-grant : (k a m l : ℕ) (lender : Option ℕ) → k < length messages → get_or messages k no_wire ≡ wire a me (msg.Grant m l)
      → new me ≡ with_debt (with_modes (old me) m 0) lender m l
      → Leads n new (remove k messages ++ leaving_sent me (old me) a) height
  unfolding is_token
  leads-grant k a m l lender inside there here =
      still (remove k messages ++ leaving_sent me (old me) a)
      (λ c. omega (
        arith,
        passing-taken c messages k a me (msg.Grant m l) inside there,
        passing-leaving c (remove k messages) me (old me) a,
      )) (rw here refl) (rw here refl)

  -- the sender looks toward the receiver, which is the bottom now
  pub leads-token : (k a m rest l : ℕ) → k < length messages → get_or messages k no_wire ≡ wire a me (msg.Token m rest l)
      → Sender old messages → new me ≡ tokened_by (old me) me a m rest l
      → Leads n new (remove k messages ++ leaving_sent me (old me) a) (rerooted me height)
  unfolding tokened_by is_token
  leads-token k a m rest l inside there sender here c h t z = go (same? c me) (same? c a) (same? (old c).toward me)
    where
      towards : (old a).toward ≡ me
      towards =
          sym (ap (λ (w : Wire). (old w.«from»).toward) there)
          ∙ sender.toward (get_or messages k no_wire) (mem-at messages k no_wire inside) m rest l (ap (λ (w : Wire). w.message) there)
          ∙ ap (λ (w : Wire). w.to) there

      go : (c ≡ me) ⊎ (c ≢ me) → (c ≡ a) ⊎ (c ≢ a) → ((old c).toward ≡ me) ⊎ ((old c).toward ≢ me)
          → rerooted me height (new c).toward < rerooted me height c
      go (inl e) f g = clash (ap (λ (r : Room). r.token) here) (sym (ap (λ (x : ℕ). (new x).token) e) ∙ t)
      go (inr e) f (inl g) =
          rw (ap (λ (r : Room). r.toward) (others c e), g) (omega (arith, rerooted-here me height, rerooted-other me height c e))
      go (inr e) (inl f) (inr g) = absurd (g (ap (λ (x : ℕ). (old x).toward) f ∙ towards))
      go (inr e) (inr f) (inr g) =
          rw (ap (λ (r : Room). r.toward) (others c e))
          (omega (
            arith,
            rerooted-other me height c e,
            rerooted-other me height (old c).toward g,
            leads c h (sym (ap (λ (r : Room). r.token) (others c e)) ∙ t) before,
          ))
        where
          before : passing c messages ≡ 0
          before = omega (
            arith,
            z,
            passing-taken c messages k a me (msg.Token m rest l) inside there,
            passing-leaving c (remove k messages) me (old me) a,
            ap one (ne_eqb a c (λ q. f (sym q))),
          )

  pub leads-reduce : (k a l m : ℕ) → k < length messages → get_or messages k no_wire ≡ wire a me (msg.Reduce l m)
      → new me ≡ reduced (old me) a l m → Leads n new (remove k messages) height
  unfolding is_token
  leads-reduce k a l m inside there here =
      still (remove k messages) (λ c. omega (arith, passing-taken c messages k a me (msg.Reduce l m) inside there))
      (rw here (reduced-either (old me) a l m (λ (r : Room). r.token ≡ (old me).token) (λ e. refl) (λ e. refl)))
      (rw here (reduced-either (old me) a l m (λ (r : Room). r.toward ≡ (old me).toward) (λ e. refl) (λ e. refl)))
