-- LIGHT is kept by each change.
use Rattle.std.specs.Prelude.{◌≡◌, ◌≢◌, ◌⊎◌, true, false, ◌&&◌, List, [], ◌∷◌, ◌++◌, ℕ, ◌≤◌, ◌<◌}
use Rattle.std.proofs.Common.{sym, ◌∙◌, ap, subst, inl, inr, ⊎_elim, arith}
use Rattle.base.specs.Tests.{clash}
use Rattle.base.specs.Sums.{same?, below?}
use Rattle.modes.specs.Codes.{none, IR}
use Rattle.modes.specs.Modes.{agrees, can_lend}
use Rattle.modes.specs.Under.{small}
use Rattle.modes.proofs.Laws.{low_small, small-lends-IR, under-small-falls}
use Rattle.room.specs.declared.Room.{Room}
use Rattle.room.specs.Record.{with_modes}
use Rattle.room.specs.Owned.{owned}
use Rattle.table.specs.declared.Queued.{Queued}
use Rattle.rules.specs.Rules.{is_empty}
use Rattle.facts.specs.Rooms.{RoomFacts}
use Rattle.owning.specs.Clauses.{Blocked, LightAt, Light}
use Rattle.owning.proofs.Changes.{same-owned, wanted-same}
use Rattle.owning.proofs.Falls.{under-small-le}
use Rattle.owning.proofs.Weaker.{Weaker}
use Rattle.owning.proofs.Small.{SmallEntries, owned-small}
use Rattle.owning.proofs.Blocked.{blocked-same, blocked-not, blocked-join, blocked-ask}

-- what is under none or IR is none or IR
still-light : (r s : Room) → Weaker r s → owned r ≤ IR → owned s ≤ IR
still-light r s u h = omega (arith, under-small-le (owned s) (owned r) (low_small (owned r) (omega arith)) u)

-- without the token it owns none or IR
pub light-away : (n : ℕ) (rooms : ℕ → Room) (queue : List Queued) → Light n rooms queue → (c : ℕ) → c < n → (rooms c).token ≡ false
    → (rooms c).wanted ≡ IR → owned (rooms c) ≤ IR
light-away n rooms queue s c h without e = ⊎_elim (λ k. k) (λ k. clash k.0 without) (s c h e)

-- another room joins the queue
pub light-join : (n : ℕ) (rooms : ℕ → Room) (queue : List Queued) (q : Queued) → Light n rooms queue → Light n rooms (queue ++ (q ∷ []))
light-join n rooms queue q s c h e =
    ⊎_elim (λ k. inl k) (λ k. inr (k.0, blocked-join (rooms c) queue q k.1)) (s c h e)

module _ (n : ℕ) (old new : ℕ → Room) (queue : List Queued) (me : ℕ) (low : me < n) (others : (c : ℕ) → c ≢ me → new c ≡ old c)
    (s : Light n old queue) where
  -- the queue as it is: only the changed room has to be looked at
  room : LightAt (new me) queue → Light n new queue
  room f c h = go (same? c me)
    where
      go : (c ≡ me) ⊎ (c ≢ me) → LightAt (new c) queue
      go (inl e) = rw e f
      go (inr e) = rw (others c e) (s c h)

  -- it does not wait for IR
  pub light-other : (new me).wanted ≢ IR → Light n new queue
  light-other ne = room (λ e. absurd (ne e))

  -- it waits as before, has no token, and owns no more than before
  pub light-weaker : (old me).token ≡ false → (new me).wanted ≡ (old me).wanted → Weaker (old me) (new me) → Light n new queue
  light-weaker without waits u =
      room λ e.
      inl (still-light (old me) (new me) u (light-away n old queue s me low without (sym waits ∙ e)))

  -- ASK without the token: what is owned cannot lend IR, so it is none
  pub light-request : (m : ℕ) → small (owned (old me)) ≡ true → can_lend (owned (old me)) m ≡ false
      → new me ≡ with_modes (old me) (old me).held m → Light n new queue
  light-request m weak cannot here =
      room λ e.
      let asked : m ≡ IR = sym (ap (λ (r : Room). r.wanted) here) ∙ e in
      inl (rw (here, same-owned (old me) (with_modes (old me) (old me).held m) (wanted-same (old me) m)) (go asked (below? (owned (old me)) 1)))
    where
      go : m ≡ IR → (owned (old me) < 1) ⊎ (1 ≤ owned (old me)) → owned (old me) ≤ IR
      go e (inl h) = omega arith
      go e (inr h) = clash (small-lends-IR (owned (old me)) weak h) (rw e at cannot)

  -- a REDUCE at the room with the token: it owns as before, or what it owned was small and fell
  pub light-reduce : RoomFacts n me (old me) → SmallEntries (old me) → (new me).token ≡ (old me).token → (new me).wanted ≡ (old me).wanted
      → Weaker (old me) (new me) → Light n new queue
  light-reduce facts entries token waits u =
      room λ e.
      let waited : (old me).wanted ≡ IR = sym waits ∙ e in
      ⊎_elim (λ k. inl (still-light (old me) (new me) u k)) (λ k. go waited k (same? (owned (new me)) (owned (old me)))) (s me low waited)
    where
      -- it waits for IR, so it holds nothing
      free : (old me).wanted ≡ IR → ((old me).held ≡ none) ⊎ ((old me).held ≢ none) → (old me).held ≡ none
      free e (inl k) = k
      free e (inr k) = absurd (omega (arith, (facts.upgrade k (λ z. omega arith)).1))

      weak : (old me).wanted ≡ IR → small (owned (old me)) ≡ true
      weak e = owned-small (old me) entries (rw (free e (same? (old me).held none)) (low_small none (omega arith)))

      go : (old me).wanted ≡ IR → ((old me).token ≡ true) × Blocked (old me) queue → (owned (new me) ≡ owned (old me)) ⊎ (owned (new me) ≢ owned (old me))
          → (owned (new me) ≤ IR) ⊎ (((new me).token ≡ true) × Blocked (new me) queue)
      go e k (inl q) = inr (token ∙ k.0, blocked-same (old me) (new me) queue q k.1)
      go e k (inr q) = inl (under-small-falls (owned (new me)) (owned (old me)) (weak e) u q).0

  -- The room with the token acts, no other has it, and the queue changes.
  module _ (alone : (c : ℕ) → c < n → c ≢ me → (old c).token ≡ false) where
    turn : (rest : List Queued) → LightAt (new me) rest → Light n new rest
    turn rest f c h = go (same? c me)
      where
        go : (c ≡ me) ⊎ (c ≢ me) → LightAt (new c) rest
        go (inl e) = rw e f
        go (inr e) = rw (others c e) (λ w. inl (light-away n old queue s c h (alone c h e) w))

    -- it serves itself
    pub light-self : (rest : List Queued) → (new me).wanted ≢ IR → Light n new rest
    light-self rest ne = turn rest (λ e. absurd (ne e))

    -- it lends or passes to the head of the queue, which agrees with what it owned
    pub light-turn : (q : Queued) (rest : List Queued) → queue ≡ q ∷ rest → agrees (owned (old me)) q.mode ≡ true
        → (new me).wanted ≡ (old me).wanted → Weaker (old me) (new me) → Light n new rest
    light-turn q rest is agree waits u =
        turn rest λ e.
        inl (still-light (old me) (new me) u
        (⊎_elim (λ k. k) (λ k. blocked-not (old me) q rest agree (subst (Blocked (old me)) is k.1)) (s me low (sym waits ∙ e))))

    -- ASK that has to wait: the room joins the queue, and its head conflicts
    pub light-ask : (m : ℕ) → (old me).token ≡ true → (queue ≡ []) ⊎ Blocked (old me) queue → (is_empty queue && agrees m (owned (old me))) ≡ false
        → new me ≡ with_modes (old me) (old me).held m → Light n new (queue ++ (record { room = me; mode = m } ∷ []))
    light-ask m with head test here =
        turn (queue ++ (record { room = me; mode = m } ∷ [])) λ e.
        inr (
          ap (λ (r : Room). r.token) here ∙ with,
          rw here
              (blocked-same (old me) (with_modes (old me) (old me).held m) (queue ++ (record { room = me; mode = m } ∷ []))
              (same-owned (old me) (with_modes (old me) (old me).held m) (wanted-same (old me) m))
              (blocked-ask (old me) queue (record { room = me; mode = m }) head test)),
        )
