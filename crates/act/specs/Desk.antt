-- How much a desk has room for.
use Rattle.std.specs.Prelude.{ℕ, ◌+◌, ◌≤◌, ◌≡◌, List, length, take}
use Rattle.base.specs.Arrays.{padded}
use Rattle.table.specs.declared.Queued.{Queued}
use Rattle.table.specs.declared.Wire.{Wire}
use Rattle.table.specs.Limits.{queue_limit}
use Rattle.table.specs.Tables.{no_queued, no_wire}
use Rattle.rules.specs.Work.{Work}

-- the queued and the sent of a step together are a full queue and two more at the most: without the token a loan and a REDUCE are sent;
-- with it one joins or a REDUCE is sent, and then each message takes one off the queue
abbrev pub load_limit : ℕ
load_limit = queue_limit + 2

-- how many are queued and sent
abbrev pub load : Work → ℕ
load w = length w.queue + length w.sent

-- there is room for k more
abbrev pub HasRoom : Work → ℕ → Type 0
HasRoom w k = load w + k ≤ load_limit

-- the places of a desk's queue: a room may join a full one
abbrev pub place_limit : ℕ
place_limit = queue_limit + 1

-- room for the messages of one step; two to spare
abbrev pub out_limit : ℕ
out_limit = place_limit + 2

-- how a desk's arrays are laid: so many in use, no more than a step needs, and the places past them blank
pub record IsLaid (queue : List Queued) (queued : ℕ) (out : List Wire) (sent : ℕ) : Type 0 where
  pub load : queued + sent ≤ load_limit
  pub fits : queued ≤ place_limit
  pub places : length queue ≡ place_limit
  pub outbox : length out ≡ out_limit
  pub queue-blank : queue ≡ padded place_limit no_queued (take queued queue)
  pub out-blank : out ≡ padded out_limit no_wire (take sent out)
