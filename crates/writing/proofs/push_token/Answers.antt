use Rattle.std.proofs.Common.{sym, ◌∙◌}
use Rattle.writing.proofs.Rooms.{token_at, token_nowhere}
use Rattle.writing.proofs.push_token.Goals as goal

pub returns-in-Some-clause-bytes : goal.returns-in-Some-clause-bytes
returns-in-Some-clause-bytes c = rw (c.push_number.ensures.bytes, token_at c.args.rooms.now _ (sym c.token_place.ensures ∙ c.in-Some.is))

pub returns-in-None-clause-bytes : goal.returns-in-None-clause-bytes
returns-in-None-clause-bytes c = rw (c.push_str.ensures.bytes, token_nowhere c.args.rooms.now (sym c.token_place.ensures ∙ c.in-None.is))
