-- What the queue and the messages name, and how often.
use Rattle.std.specs.Prelude.{ℕ, Bool, List, get_or, map, Option, Some, None, ltb, eqb, if◌then◌else◌}
use Rattle.std.specs.List.{list_all, range_with_len}
use Rattle.base.specs.Below.{all_below}
use Rattle.base.specs.Sums.{one}
use Rattle.base.specs.Lists.{count}
use Rattle.room.specs.Limits.{room_limit}
use Rattle.table.specs.declared.Queued.{Queued}
use Rattle.table.specs.declared.Message.{Message}
use Rattle.table.specs.declared.Message.TheVariants as msg
use Rattle.table.specs.Formed.{queued_fine}
use Rattle.records.specs.declared.Standing.{Standing}
use Rattle.records.specs.Seen.{standing_at}
use Rattle.formed.specs.declared.wires.Carried.{Carried}
use Rattle.formed.specs.Standings.{rooms_of}

-- how often the places of a queue name each room; nothing where a place is not fine
unfoldable pub named_in : ℕ → List Standing → List Queued → Option (List ℕ)
named_in n rooms queue =
    if list_all (queued_fine n (rooms_of rooms)) queue
    then Some (map (λ c. count (λ q. eqb q.room c) queue) (range_with_len 0 room_limit))
    else None

-- the room that a message to this room names, if it names one, and the tokens that it carries
unfoldable pub carried_by : ℕ → Message → Carried
carried_by to msg.Nothing = record { room = None; tokens = 0 }
carried_by to (msg.Request o m idle) = record { room = Some o; tokens = 0 }
carried_by to (msg.Grant m l) = record { room = Some to; tokens = 0 }
carried_by to (msg.Token m rest l) = record { room = Some to; tokens = 1 }
carried_by to (msg.Reduce l m) = record { room = None; tokens = 0 }

-- each of n rooms is named once if it waits, else never
unfoldable pub times_fine : ℕ → List Standing → List ℕ → Bool
times_fine n rooms times = all_below n (λ c. eqb (get_or times c 0) (one (ltb 0 (standing_at rooms c).due)))
