-- The sessions of three rooms in which the shortcuts show, as events.
use Rattle.std.specs.Prelude.{List, [], ◌∷◌}
use Rattle.modes.specs.Codes.{IR, R, U, W}
use Rattle.rules.specs.declared.Event.{Event}
use Rattle.rules.specs.Events.{asks, upgrades, hands_back, delivers}

-- room 1's hand-back of its first loan arrives at room 2 after room 2 has lent to room 1 anew
unfoldable pub spring : List Event
spring =
    asks 1 R ∷ asks 2 U ∷ delivers 2 0 ∷ delivers 1 0 ∷ delivers 0 2 ∷ delivers 0 2 ∷ delivers 2 1 ∷ hands_back 1 ∷ asks 1 R
    ∷ delivers 1 0 ∷ delivers 0 2 ∷ upgrades 2 ∷ delivers 1 2 ∷ delivers 2 1 ∷ []

-- room 0, which has the token, lends and hands back; then it asks for a write while its loan is under way
unfoldable pub held_or_owned : List Event
held_or_owned = asks 0 IR ∷ asks 1 IR ∷ asks 2 IR ∷ delivers 1 0 ∷ hands_back 0 ∷ asks 0 W ∷ delivers 2 0 ∷ delivers 0 1 ∷ []

-- the token goes from room 0 to room 2 and back while room 2 has an entry for room 0; then room 0 asks to write
unfoldable pub entry_cleared : List Event
entry_cleared =
    asks 0 IR ∷ asks 1 IR ∷ asks 2 R ∷ delivers 1 0 ∷ hands_back 0 ∷ delivers 2 0 ∷ asks 0 U ∷ delivers 0 1 ∷ hands_back 1 ∷ delivers 0 2
    ∷ hands_back 2 ∷ delivers 0 2 ∷ delivers 2 0 ∷ upgrades 0 ∷ delivers 1 0 ∷ []

-- what room 0 still owed when it passed the token is repaid, under the TOKEN's link number, after room 2 has lent to room 0 anew
unfoldable pub counter_lifted : List Event
counter_lifted =
    asks 0 IR ∷ asks 1 IR ∷ asks 2 U ∷ delivers 2 0 ∷ delivers 1 0 ∷ hands_back 0 ∷ asks 0 R ∷ delivers 0 2 ∷ delivers 0 1 ∷ hands_back 1
    ∷ delivers 0 2 ∷ upgrades 2 ∷ delivers 1 0 ∷ delivers 2 0 ∷ delivers 0 2 ∷ []
