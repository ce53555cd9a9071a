use Rattle.room.proofs.Laws.{lent_is}
use borrow.Author.Rules.{rules}
use Rattle.room.proofs.Room.lend.Goals as goal

pub returns : goal.returns
returns c = search (rules, lent_is)
