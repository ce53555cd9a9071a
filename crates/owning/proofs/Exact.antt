-- EXACT is kept by each change, or is put right again by settling.
use Rattle.std.specs.Prelude.{◌≡◌, refl, ◌≢◌, ◌⊎◌, true, false, ℕ, ◌≤◌, ◌<◌, length}
use Rattle.std.proofs.Math.Path.{sym, ap, subst⁻¹}
use Rattle.std.proofs.Common.{◌∙◌, inl, inr, arith}
use Rattle.base.specs.Tests.{clash}
use Rattle.base.specs.Sums.{same?}
use Rattle.std.specs.Prelude.{Option}
use Rattle.modes.specs.Codes.{none, IR}
use Rattle.modes.specs.Modes.{is_stronger, can_lend}
use Rattle.modes.specs.Under.{under, small}
use Rattle.modes.proofs.Laws.{stronger-true, stronger-false, weak-small, under-small-falls}
use Rattle.room.specs.declared.Room.{Room}
use Rattle.room.specs.Limits.{room_limit}
use Rattle.room.specs.Record.{with_modes, with_debt}
use Rattle.room.specs.Owned.{owned}
use Rattle.room.specs.Rules.{lent_to, left, remaining, passed_to, credited, tokened_by, reduced}
use Rattle.facts.specs.Rooms.{RoomFacts}
use Rattle.facts.specs.Cases.{passed-either, credited-credit, reduced-credit}
use Rattle.owning.specs.Clauses.{Square, Exact, Agreeing}
use Rattle.owning.proofs.Owned.{part_held}
use Rattle.owning.proofs.Changes.{same-owned, modes-alters, wanted-same, granted-alters, credited-same, passed-owned}
use Rattle.owning.proofs.Falls.{loan-same, grant-owned}
use Rattle.owning.proofs.Weaker.{Weaker, hand-back-weaker, lent-weaker, reduced-weaker}
use Rattle.owning.proofs.Small.{SmallEntries, owned-small}

-- EXACT but for room x, which has not settled yet: what it owns is under what it owes, and that is small
pub record ExactBut (x n : ℕ) (rooms : ℕ → Room) : Type 0 where
  pub others : (c : ℕ) → c < n → c ≢ x → (rooms c).token ≡ false → Square (rooms c)
  pub owes : under (owned (rooms x)) (rooms x).credit ≡ true
  pub weak : small (rooms x).credit ≡ true

-- a room without the token holds neither U nor W, so it owns a small mode
pub owned-weak : (n c : ℕ) (r : Room) → RoomFacts n c r → r.token ≡ false → SmallEntries r → small (owned r) ≡ true
owned-weak n c r f without entries =
    owned-small r entries (weak-small r.held f.held-code (λ e. clash (f.U-token e) without) (λ e. clash (f.W-token e) without))

-- where what is owned is not weaker than what is owed there is nothing to settle
pub exact-still : (x n : ℕ) (rooms : ℕ → Room) → ExactBut x n rooms → is_stronger (rooms x).credit (owned (rooms x)) ≡ false → Exact n rooms
exact-still x n rooms b e c h t = go (same? c x)
  where
    equal : (owned (rooms x) ≡ (rooms x).credit) ⊎ (owned (rooms x) ≢ (rooms x).credit) → Square (rooms x)
    equal (inl q) = sym q
    equal (inr q) =
        absurd (omega (arith, (under-small-falls (owned (rooms x)) (rooms x).credit b.weak b.owes q).1, stronger-false (rooms x).credit (owned (rooms x)) e))

    go : (c ≡ x) ⊎ (c ≢ x) → Square (rooms c)
    go (inl q) = rw q (equal (same? (owned (rooms x)) (rooms x).credit))
    go (inr q) = b.others c h q t

-- where it is weaker it is none or IR
pub settle-weak : (x n : ℕ) (rooms : ℕ → Room) → ExactBut x n rooms → is_stronger (rooms x).credit (owned (rooms x)) ≡ true → owned (rooms x) ≤ IR
settle-weak x n rooms b e =
    (under-small-falls (owned (rooms x)) (rooms x).credit b.weak b.owes (λ q. omega (arith, stronger-true (rooms x).credit (owned (rooms x)) e))).0

module _ (n : ℕ) (old new : ℕ → Room) (me : ℕ) (low : me < n) (others : (c : ℕ) → c ≢ me → new c ≡ old c) where
  -- "settle": credit becomes owned
  pub exact-settle : ExactBut me n old → new me ≡ credited (old me) (owned (old me)) → Exact n new
  exact-settle b here c h t = go (same? c me)
    where
      go : (c ≡ me) ⊎ (c ≢ me) → Square (new c)
      go (inl e) =
          rw (e, here)
          (credited-credit (old me) (owned (old me)) ∙ sym (same-owned (old me) (credited (old me) (owned (old me))) (credited-same (old me) (owned (old me)))))
      go (inr e) = rw (others c e) (b.others c h e (ap (λ (r : Room). r.token) (sym (others c e)) ∙ t))

  module _ (x : Exact n old) where
    -- other records: only the changed one has to be looked at
    room : ((new me).token ≡ false → Square (new me)) → Exact n new
    room f c h t = go (same? c me)
      where
        go : (c ≡ me) ⊎ (c ≢ me) → Square (new c)
        go (inl e) = rw e (f (ap (λ (c : ℕ). (new c).token) (sym e) ∙ t))
        go (inr e) = rw (others c e) (x c h (ap (λ (r : Room). r.token) (sym (others c e)) ∙ t))

    -- whatever changes at the room with the token
    pub exact-token : (new me).token ≡ true → Exact n new
    exact-token t = room (λ f. clash t f)

    -- a TOKEN arrives
    pub exact-arrived : (a m rest l : ℕ) → new me ≡ tokened_by (old me) me a m rest l → Exact n new
    unfolding tokened_by
    exact-arrived a m rest l here = exact-token (ap (λ (r : Room). r.token) here)

    -- it owes and owns as before
    pub exact_same : (new me).token ≡ (old me).token → (new me).credit ≡ (old me).credit → owned (new me) ≡ owned (old me) → Exact n new
    exact_same t c o = room (λ f. c ∙ x me low (sym t ∙ f) ∙ sym o)

    -- it wants another mode
    pub exact-want : (v : ℕ) → new me ≡ with_modes (old me) (old me).held v → Exact n new
    exact-want v here =
        exact_same (ap (λ (r : Room). r.token) here) (ap (λ (r : Room). r.credit) here)
        (ap owned here ∙ same-owned (old me) (with_modes (old me) (old me).held v) (wanted-same (old me) v))

    -- it lends itself a mode
    pub exact-self-loan : (h v : ℕ) → Agreeing (old me) → (old me).held ≡ none → can_lend (owned (old me)) h ≡ true
        → new me ≡ with_modes (old me) h v → Exact n new
    exact-self-loan h v agreeing free can here =
        exact_same (ap (λ (r : Room). r.token) here) (ap (λ (r : Room). r.credit) here)
        (ap owned here
        ∙ loan-same (old me) (with_modes (old me) h v) agreeing room_limit h (modes-alters (old me) h v) can (part_held (old me) ∙ free))

    -- a GRANT arrives that fits
    pub exact-grant : (lender : Option ℕ) (m l : ℕ) → Agreeing (old me) → under (owned (old me)) m ≡ true → small m ≡ true
        → new me ≡ with_debt (with_modes (old me) m 0) lender m l → Exact n new
    exact-grant lender m l agreeing fits weak here =
        room (λ f. ap (λ (r : Room). r.credit) here
        ∙ sym (ap owned here
        ∙ grant-owned (old me) (with_debt (with_modes (old me) m 0) lender m l) agreeing room_limit m (granted-alters (old me) lender m l) fits weak (omega arith)))

    -- "pass": credit is what remains, and that is what the room then owns
    pub exact-pass : (y : ℕ) → length (old me).entries ≡ room_limit → y < room_limit → (old me).credit ≡ none → new me ≡ passed_to (old me) y → Exact n new
    unfolding left
    exact-pass y long near free here =
        room (λ f. ap (λ (r : Room). r.credit) here ∙ owes ∙ sym (ap owned here ∙ passed-owned (old me) y long near))
      where
        owes : (passed_to (old me) y).credit ≡ remaining (old me) y
        owes =
            passed-either (old me) y (λ (r : Room). r.credit ≡ remaining (old me) y) (λ e. free ∙ sym e) (λ e. refl)

    -- without the token what is owned falls, and settling is due
    module _ (facts : RoomFacts n me (old me)) (without : (old me).token ≡ false) (agreeing : Agreeing (old me)) (entries : SmallEntries (old me)) where
      falls : (new me).credit ≡ (old me).credit → Weaker (old me) (new me) → ExactBut me n new
      falls c u =
          record {
            others = λ d h ne t. rw (others d ne) (x d h (ap (λ (r : Room). r.token) (sym (others d ne)) ∙ t));
            owes = subst⁻¹ (λ (m : ℕ). under (owned (new me)) m ≡ true) (c ∙ x me low without) u;
            weak = subst⁻¹ (λ (m : ℕ). small m ≡ true) (c ∙ x me low without) (owned-weak n me (old me) facts without entries);
          }

      pub but-hand-back : (v : ℕ) → new me ≡ with_modes (old me) none v → ExactBut me n new
      but-hand-back v here =
          falls (ap (λ (r : Room). r.credit) here)
          (rw here (hand-back-weaker (old me) agreeing v))

      module _ (long : length (old me).entries ≡ room_limit) (y : ℕ) (near : y < room_limit) where
        pub but-lend : (m : ℕ) → can_lend (owned (old me)) m ≡ true → new me ≡ lent_to (old me) y m → ExactBut me n new
        unfolding lent_to
        but-lend m can here =
            falls (ap (λ (r : Room). r.credit) here)
            (rw here (lent-weaker (old me) agreeing y long near m can))

        pub but-reduce : (l m : ℕ) → m ≤ IR → new me ≡ reduced (old me) y l m → ExactBut me n new
        but-reduce l m weak here =
            falls (ap (λ (r : Room). r.credit) here ∙ reduced-credit (old me) y l m)
            (rw here (reduced-weaker (old me) agreeing y long near l m weak))
