-- The invariant: what holds of every table that events lead to from a fresh one. Its clauses that hold inside a step too are `Clauses`.
use Rattle.std.specs.Prelude.{List, ℕ}
use Rattle.room.specs.declared.Room.{Room}
use Rattle.table.specs.declared.Wire.{Wire}
use Rattle.table.specs.declared.Queued.{Queued}
use Rattle.kept.specs.Moment.{Sound}
use Rattle.ledger.specs.Loans.{Ledger}
use Rattle.ledger.specs.Links.{Links, Sender}
use Rattle.owning.specs.Clauses.{Exact, Small, Pairs, Fits, Idle, Light, Served}
use Rattle.tree.specs.Tree.{Tree}
use Rattle.bounds.specs.Bounds.{Messages, Counters}

-- The clauses that hold at every moment, with so many names in hand.
pub record Clauses (n : ℕ) (rooms : ℕ → Room) (queue : List Queued) (messages : List Wire) (hand : ℕ) : Type 0 where
  -- LEDGER: what a room is owed and what the other owes are the same, once all is delivered
  pub ledger : Ledger n rooms messages
  -- LINKS: which link numbers there can be
  pub links : Links n rooms messages
  -- SENDER: what a TOKEN under way says of its sender
  pub sender : Sender rooms messages
  -- SMALL: what is lent is none, IR, R or IW; a REDUCE goes to none or IR
  pub small : Small n rooms messages
  -- PAIRS: the modes of one room agree, and with those of a TOKEN under way to it
  pub pairs : Pairs n rooms messages
  -- FITS: what a room owns is under what is granted to it
  pub fits : Fits rooms messages
  -- IDLE: who says that he owned nothing owns nothing
  pub idle : Idle rooms messages
  -- TREE: loans go from lower to higher ranks
  pub tree : Tree n rooms messages
  -- MESSAGES: how many messages there can be
  pub few : Messages n rooms queue messages hand
  -- COUNTERS: how far the counters can go
  pub counters : Counters n rooms queue messages hand

pub record Invariant (n : ℕ) (rooms : ℕ → Room) (queue : List Queued) (messages : List Wire) : Type 0 where
  -- WF+: well formed, and no REQUEST was begun by the room with the token
  pub sound : Sound n rooms queue messages
  -- what holds inside a step too, with no name in hand
  pub clauses : Clauses n rooms queue messages 0
  -- EXACT: a room without the token owes exactly what it owns
  pub exact : Exact n rooms
  -- LIGHT: a room that waits for IR owns none or IR, or has the token and the head of the queue conflicts with what it owns
  pub light : Light n rooms queue
  -- SERVED: at the room with the token a waiting upgrade has an entry left; with none waiting the head of the queue conflicts with what the
  -- room owns
  pub served : Served n rooms queue
