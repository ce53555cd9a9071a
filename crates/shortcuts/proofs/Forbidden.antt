-- What four of document 01's shortcuts lead to from a fresh table: tables that demand 3 forbids.
use Rattle.std.specs.Prelude.{ℕ, ◌≡◌, refl, false, ◌&&◌, [], ◌∷◌}
use Rattle.std.proofs.Common.{arith}
use Rattle.base.specs.Tests.{clash, ◌also◌}
use Rattle.modes.specs.Codes.{none, IR, R, W}
use Rattle.modes.specs.Modes.{agrees}
use Rattle.table.specs.declared.Table.{Table}
use Rattle.table.specs.Tables.{room_at}
use Rattle.safe.specs.Reached.{Demand3}
use Rattle.variants.specs.Rests.{Rests, rests}
use Rattle.shortcuts.specs.Choices.{matched_by_room, tested_by_held, entry_left, counter_unlifted}
use Rattle.shortcuts.specs.Rules.{rules_by}
use Rattle.shortcuts.specs.Sessions.{spring, held_or_owned, entry_cleared, counter_lifted}
use Rattle.shortcuts.proofs.Ends.{end_of, held_in, ends}

-- modes held by three rooms, two of which do not agree
pub held-forbidden : (t : Table) (x y z : ℕ) → held_in t ≡ x ∷ y ∷ z ∷ [] → (agrees x y && agrees x z && agrees y z) ≡ false → Demand3 3 t → ⊥
held-forbidden t x y z held test d =
    let first : (room_at t 0).held ≡ x = cc in
    let second : (room_at t 1).held ≡ y = cc in
    let third : (room_at t 2).held ≡ z = cc in
    clash
    ((rw (first, second) at (d.agree 0 1 (omega arith) (omega arith) (λ e. omega arith)))
    also (rw (first, third) at (d.agree 0 2 (omega arith) (omega arith) (λ e. omega arith)))
    also (rw (second, third) at (d.agree 1 2 (omega arith) (omega arith) (λ e. omega arith))))
    test

-- "Matching a REDUCE by room alone: an old hand-back erases a newer loan, and two rooms write."
pub matched-by-room : Demand3 3 (end_of matched_by_room spring) → ⊥
unfolding agrees
matched-by-room = held-forbidden (end_of matched_by_room spring) none R W ends.by-room refl

-- "Testing a request against the held mode and not the owned one."
pub tested-by-held : Demand3 3 (end_of tested_by_held held_or_owned) → ⊥
unfolding agrees
tested-by-held = held-forbidden (end_of tested_by_held held_or_owned) W IR none ends.by-held refl

-- "Leaving the receiver's entry when the token goes: it is never repaid." Nothing more is accepted, and room 0 has not been given its write.
pub entry-left : Rests (rules_by entry_left) (end_of entry_left entry_cleared) × ((room_at (end_of entry_left entry_cleared) 0).wanted ≡ W)
entry-left = (rests (rules_by entry_left) (end_of entry_left entry_cleared) ends.left-still, ends.left-waits)

-- "Choosing the link number of a TOKEN without lifting the receiver's counter."
pub counter-unlifted : Demand3 3 (end_of counter_unlifted counter_lifted) → ⊥
unfolding agrees
counter-unlifted = held-forbidden (end_of counter_unlifted counter_lifted) R none W ends.unlifted refl
