-- The numbers in their order: a law for each place at which an event is refused, and one for each event that is not.
use mathlib.Core.Path.{◌≡◌, refl, sym, ◌∙◌}
use mathlib.Core.Bool.{Bool, true, false, not, ◌&&◌, ◌||◌, and-false, true≢false, false≢true}
use Prim.Native.Nat.{ℕ, ◌≤◌, ◌<◌}
use native.Mathlib.Omega.{arith}
use lib.Dec.{eqb, ltb}
use borrow.Author.Tests.{le-leb, lt-leb, eq-eqb, ne_eqb}
use Rattle.base.specs.Below.{all_below, all-at}
use Rattle.std.specs.Prelude.{Option, Some, None}
use Rattle.table.specs.declared.Table.{Table}
use Rattle.table.specs.declared.Message.{Message}
use Rattle.table.specs.declared.Found.{Found}
use Rattle.table.specs.Tables.{room_at}
use Rattle.table.specs.Oldest.{found_at, oldest_of}
use Rattle.table.specs.Limits.{wire_limit}
use Rattle.room.specs.Limits.{room_limit}
use Rattle.rules.specs.declared.Event.{Event}
use Rattle.rules.specs.Limits.{busy_limit, worn_limit}
use Rattle.rules.specs.Events.{ASK, UPGRADE, HANDBACK, DELIVER}
use Rattle.rules.specs.Work.{Work}
use Rattle.rules.specs.Rules.{ask, upgrade, hand_back, receive}
use Rattle.rules.specs.Refusals.{first, refusal_as, is_found, any_worn}
use Rattle.act.specs.declared.Start.{Start}
use Rattle.act.specs.Start.{start_of}
use Rattle.plan.specs.Plans.{Planned, start_at, made_plan, refused_plan, taking, doing, placed, plan_as, Begins}

-- the kinds that there are
known : (k : ℕ) → k < 4 → (eqb k 0 || eqb k 1 || eqb k 2 || eqb k 3) ≡ true
known k h = all-at 4 (λ k. eqb k 0 || eqb k 1 || eqb k 2 || eqb k 3) refl k h

module _ (t : Table) (e : Event) where
  -- a number that is given is the plan
  pub refused-is : (formed : Bool) (k : ℕ) → (k ≡ 0 → ⊥) → refusal_as formed t e ≡ k → refused_plan k ≡ plan_as formed t e
  unfolding plan_as
  refused-is formed k z h = sym (simp (h, ne_eqb k 0 z))

  -- the table is told to be ill formed, or has no places for what it says it has
  pub no_table : (formed : Bool) → formed ≡ false → refusal_as formed t e ≡ 1
  unfolding refusal_as first
  no_table formed h = simp h

  pub told-not : (formed : Bool) → not formed ≡ true → (formed && placed t) ≡ false
  told-not true h = absurd (false≢true h)
  told-not false h = refl

  pub rooms-over : (formed : Bool) → room_limit < t.n → (formed && placed t) ≡ false
  unfolding placed
  rooms-over formed h = simp (lt-leb _ _ h, and-false)

  pub messages-over : (formed : Bool) → wire_limit < t.count → (formed && placed t) ≡ false
  unfolding placed
  messages-over formed h = simp (lt-leb _ _ h, and-false)

  -- else what is told is believed
  pub told_is : (formed : Bool) → not formed ≡ false → t.n ≤ room_limit → t.count ≤ wire_limit → (p : Planned) → p ≡ plan_as true t e
      → p ≡ plan_as (formed && placed t) t e
  unfolding placed
  told_is true h n m p q = q ∙ simp (le-leb _ _ n, le-leb _ _ m)
  told_is false h n m p q = absurd (true≢false h)

  pub no-event : 3 < e.kind → refusal_as true t e ≡ 2
  unfolding refusal_as first
  no-event k =
      simp (ne_eqb e.kind 0 (λ q. omega arith), ne_eqb e.kind 1 (λ q. omega arith), ne_eqb e.kind 2 (λ q. omega arith), ne_eqb e.kind 3 (λ q. omega arith))

  pub no_room_lem : e.kind < 4 → t.n ≤ e.room → refusal_as true t e ≡ 3
  unfolding refusal_as first
  no_room_lem k h = simp (known e.kind k, le-leb _ _ h)

  module _ (b : Begins t e ASK) where
    pub ask-below : e.mode < 1 → refusal_as true t e ≡ 4
    unfolding refusal_as first
    ask-below h = simp (b.kind, lt-leb _ _ b.room, lt-leb 1 e.mode h)

    pub ask-above : 5 < e.mode → refusal_as true t e ≡ 4
    unfolding refusal_as first
    ask-above h = simp (b.kind, lt-leb _ _ b.room, lt-leb e.mode 5 h, and-false)

    module _ (some : 1 ≤ e.mode) (code : e.mode ≤ 5) where
      pub ask-waiting : ((room_at t e.room).wanted ≡ 0 → ⊥) → refusal_as true t e ≡ 5
      unfolding refusal_as first
      ask-waiting h = simp (b.kind, lt-leb _ _ b.room, le-leb 1 _ some, le-leb _ 5 code, ne_eqb _ _ h)

      module _ (free : (room_at t e.room).wanted ≡ 0) where
        pub ask-held : ((room_at t e.room).held ≡ 0 → ⊥) → refusal_as true t e ≡ 6
        unfolding refusal_as first
        ask-held h = simp (b.kind, lt-leb _ _ b.room, le-leb 1 _ some, le-leb _ 5 code, eq-eqb _ _ free, ne_eqb _ _ h)

        module _ (empty : (room_at t e.room).held ≡ 0) where
          pub ask-busy : busy_limit ≤ t.count → refusal_as true t e ≡ 9
          unfolding refusal_as first
          ask-busy h =
              simp (b.kind, lt-leb _ _ b.room, le-leb 1 _ some, le-leb _ 5 code, eq-eqb _ _ free, eq-eqb _ _ empty, le-leb _ _ h)

          module _ (few : t.count < busy_limit) where
            pub ask-worn : all_below t.n (λ c. ltb (room_at t c).counter worn_limit) ≡ false → refusal_as true t e ≡ 10
            unfolding refusal_as first any_worn
            ask-worn h =
                simp (b.kind, lt-leb _ _ b.room, le-leb 1 _ some, le-leb _ 5 code, eq-eqb _ _ free, eq-eqb _ _ empty, lt-leb _ _ few, h)

            pub ask-made : all_below t.n (λ c. ltb (room_at t c).counter worn_limit) ≡ true → refusal_as true t e ≡ 0
            unfolding refusal_as first any_worn
            ask-made h =
                simp (b.kind, lt-leb _ _ b.room, le-leb 1 _ some, le-leb _ 5 code, eq-eqb _ _ free, eq-eqb _ _ empty, lt-leb _ _ few, h)

    pub ask-is : refusal_as true t e ≡ 0 → (s : Start) → s ≡ start_at e.room (room_at t e.room) t.queue t.queued
        → (d : Work) → d ≡ ask (start_of s) e.mode → made_plan e.room None d ≡ plan_as true t e
    unfolding plan_as doing
    ask-is h s i d o = sym (simp (h, b.kind, o, i))

  module _ (b : Begins t e UPGRADE) where
    pub upgrade-waiting : ((room_at t e.room).wanted ≡ 0 → ⊥) → refusal_as true t e ≡ 5
    unfolding refusal_as first
    upgrade-waiting h = simp (b.kind, lt-leb _ _ b.room, ne_eqb _ _ h)

    module _ (free : (room_at t e.room).wanted ≡ 0) where
      pub upgrade-other : ((room_at t e.room).held ≡ 3 → ⊥) → refusal_as true t e ≡ 7
      unfolding refusal_as first
      upgrade-other h = simp (b.kind, lt-leb _ _ b.room, eq-eqb _ _ free, ne_eqb _ _ h)

      pub upgrade-is : (room_at t e.room).held ≡ 3 → (s : Start) → s ≡ start_at e.room (room_at t e.room) t.queue t.queued
          → (d : Work) → d ≡ upgrade (start_of s) → made_plan e.room None d ≡ plan_as true t e
      unfolding plan_as doing refusal_as first
      upgrade-is h s i d o = sym (simp (b.kind, lt-leb _ _ b.room, eq-eqb _ _ free, eq-eqb _ _ h, o, i))

  module _ (b : Begins t e HANDBACK) where
    pub back-waiting : ((room_at t e.room).wanted ≡ 0 → ⊥) → refusal_as true t e ≡ 5
    unfolding refusal_as first
    back-waiting h = simp (b.kind, lt-leb _ _ b.room, ne_eqb _ _ h)

    module _ (free : (room_at t e.room).wanted ≡ 0) where
      pub back-empty : (room_at t e.room).held ≡ 0 → refusal_as true t e ≡ 7
      unfolding refusal_as first
      back-empty h = simp (b.kind, lt-leb _ _ b.room, eq-eqb _ _ free, eq-eqb _ _ h)

      pub back_is : ((room_at t e.room).held ≡ 0 → ⊥) → (s : Start) → s ≡ start_at e.room (room_at t e.room) t.queue t.queued
          → (d : Work) → d ≡ hand_back (start_of s) → made_plan e.room None d ≡ plan_as true t e
      unfolding plan_as doing refusal_as first
      back_is h s i d o = sym (simp (b.kind, lt-leb _ _ b.room, eq-eqb _ _ free, ne_eqb _ _ h, o, i))

  module _ (b : Begins t e DELIVER) where
    pub deliver-to : t.n ≤ e.other → refusal_as true t e ≡ 3
    unfolding refusal_as first
    deliver-to h = simp (b.kind, lt-leb _ _ b.room, le-leb _ _ h)

    module _ (near : e.other < t.n) (r : Option Found) (l : r ≡ oldest_of t e.room e.other) where
      pub deliver-empty : r ≡ None → refusal_as true t e ≡ 8
      unfolding refusal_as first is_found
      deliver-empty h = simp (b.kind, lt-leb _ _ b.room, lt-leb _ _ near, sym l ∙ h)

      pub deliver-is : (j : ℕ) (x : Message) → r ≡ Some (found_at j x) → (s : Start) → s ≡ start_at e.other (room_at t e.other) t.queue t.queued
          → (d : Work) → d ≡ receive (start_of s) e.room x → made_plan e.other (Some j) d ≡ plan_as true t e
      unfolding plan_as doing taking refusal_as first is_found
      deliver-is j x h s i d o = sym (simp (b.kind, lt-leb _ _ b.room, lt-leb _ _ near, sym l ∙ h, o, i))
