-- A plan that is made takes its message from those that there are, and is about a room that the array has, whatever was told of the table.
use mathlib.Core.Path.{◌≡◌, refl, sym, ◌∙◌, ap}
use mathlib.Core.Bool.{Bool, true, ◌&&◌}
use Prim.Native.Nat.{◌≤◌}
use native.Mathlib.Omega.{arith}
use lib.Dec.{leb, eqb}
use lib.ListN.{length}
use lib.Seq.{length-take-le}
use borrow.Author.Tests.{leb-true, le-leb, eqb-true, eqb-false}
use Rattle.base.specs.Choice.{split}
use Rattle.base.specs.Tests.{and_left, and_right}
use Rattle.room.specs.Limits.{room_limit}
use Rattle.std.specs.Prelude.{Option, Some, None}
use Rattle.table.specs.declared.Table.{Table}
use Rattle.table.specs.declared.Found.{Found}
use Rattle.table.specs.Limits.{wire_limit}
use Rattle.table.specs.Oldest.{oldest_of}
use Rattle.table.specs.Formed.{sizes_fit, well_formed}
use Rattle.facts.specs.Whole.{rooms-low}
use Rattle.facts.specs.Search.{oldest-low}
use Rattle.facts.specs.Accepted.{AcceptedAs, accepted-as}
use Rattle.rules.specs.declared.Event.{Event}
use Rattle.rules.specs.Events.{is_ask, is_upgrade, is_hand_back, is_deliver}
use Rattle.rules.specs.Refusals.{refusal_as}
use Rattle.plan.specs.Plans.{Planned, refused_plan, taking, doing, placed, plan_as}
use Rattle.step.specs.Writes.{Takes}

module _ (t : Table) where
  -- a table that is well formed has its places, so what is told rightly is believed
  has-places : well_formed t ≡ true → placed t ≡ true
  unfolding well_formed sizes_fit placed
  has-places w =
      let few : leb t.count wire_limit ≡ true = search (and_left, and_right) depth 25 fits 4000 in
      rw (le-leb _ _ (rooms-low t w), few)

  pub told-rightly : (formed : Bool) → formed ≡ well_formed t → (formed && placed t) ≡ well_formed t
  told-rightly formed e = split (well_formed t) (λ w. rw (e, w) (has-places w)) (λ w. rw (e, w))

  module _ (long : length t.wires ≡ wire_limit) (e : Event) (told : Bool) (fits : told ≡ true → placed t ≡ true) where
    -- no refusal applies
    module _ (h : refusal_as told t e ≡ 0) where
      acts : AcceptedAs told t e
      acts = accepted-as told t e h

      rooms : t.n ≤ room_limit
      unfolding placed
      rooms = leb-true _ _ (and_left _ _ (fits acts.formed))

      messages : t.count ≤ wire_limit
      unfolding placed
      messages = leb-true _ _ (and_right (leb t.n room_limit) _ (fits acts.formed))

      -- an event that takes no message out
      own : Takes t e.room None
      own = record { low = tt; count = messages; acts = omega (arith, acts.low, rooms) }

      delivery : is_deliver e ≡ true → (r : Option Found) → oldest_of t e.room e.other ≡ r
          → Takes t (taking t e.room e.other r).me (taking t e.room e.other r).taken
      unfolding taking
      delivery d None o = absurd (acts.found d o)
      delivery d (Some found) o =
          let place = oldest-low t e.room e.other found.place found.message o in
          let all = length-take-le t.count t.wires (omega (arith, messages, long)) in
          record { low = omega arith; count = messages; acts = omega (arith, acts.near d, rooms) }

      done : Takes t (doing t e).me (doing t e).taken
      unfolding doing
      done =
          split (is_ask e) (λ a. rw a own) (λ a. split (is_upgrade e) (λ u. rw (a, u) own) (λ u. split (is_hand_back e) (λ b. rw (a, u, b) own)
          (λ b. rw (a, u, b) (delivery (acts.kinds a u b) (oldest_of t e.room e.other) refl))))

    pub takes_of : (p : Planned) → p ≡ plan_as told t e → p.«number» ≡ 0 → Takes t p.me p.taken
    unfolding plan_as
    takes_of p q z =
        split (eqb (refusal_as told t e) 0)
        (λ b. let same : p ≡ doing t e = q ∙ simp b in rw same (done (eqb-true _ _ b)))
        (λ b. let same : p ≡ refused_plan (refusal_as told t e) = q ∙ simp b in absurd (eqb-false _ _ b (sym (ap (λ (x : Planned). x.«number») same) ∙ z)))
