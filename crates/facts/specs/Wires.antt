-- A message under way, and what a room that gets a new lender or the token sends to the old one.
use Rattle.std.specs.Prelude.{ℕ, ◌≡◌, refl, List, [], ◌∷◌, ◌++◌}
use Rattle.std.proofs.Common.{sym, append-nil}
use Rattle.std.specs.Prelude.{Option, Some, None}
use Rattle.room.specs.declared.Room.{Room}
use Rattle.room.specs.declared.Reduce.{Reduce}
use Rattle.room.specs.Rules.{leaving}
use Rattle.table.specs.declared.Wire.{Wire}
use Rattle.table.specs.declared.Message.{Message}
use Rattle.table.specs.declared.Message.TheVariants as msg
use Rattle.rules.specs.Work.{Work, send, send_out}

-- a message from a to b
abbrev pub wire : ℕ → ℕ → Message → Wire
wire a b m = record { «from» = a; to = b; message = m }

-- the message that goes out from room me with a change of its record, if any
abbrev pub sent_by : ℕ → Option Reduce → List Wire
sent_by me None = []
sent_by me (Some reduce) = wire me reduce.to (msg.Reduce reduce.link reduce.mode) ∷ []

-- it is sent after those sent already, and nothing else becomes different
pub sent-out : (w : Work) (s : Option Reduce)
    → send_out w s ≡ record { me = w.me; room = w.room; queue = w.queue; sent = w.sent ++ sent_by w.me s; worn = w.worn }
unfolding send_out send
sent-out w None = λ i. record { me = w.me; room = w.room; queue = w.queue; sent = sym (append-nil w.sent) i; worn = w.worn }
sent-out w (Some reduce) = refl

-- "if b has a lender other than a, it sends that lender REDUCE to none under the old link"
unfoldable pub leaving_sent : ℕ → Room → ℕ → List Wire
leaving_sent me r a = sent_by me (leaving r a)
