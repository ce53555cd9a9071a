use Rattle.std.proofs.Common.{◌≡◌, sym, ◌∙◌, rules}
use Rattle.std.specs.List.{position}
use Rattle.reading.proofs.Spaces.{is_space, none-behind, front, back}
use Rattle.reading.proofs.parts.Goals as goal

pub returns-in_err-at-clause-joined : goal.returns-in_err-at-clause-joined
returns-in_err-at-clause-joined c = rw c.from_residual.ensures (none-behind _ (sym c.space_in.ensures ∙ c.in_err-at.was))

pub returns : goal.returns
returns c =
    let at : position is_space c.args.text.now ≡ _ = sym c.space_in.ensures ∙ c.in_ok-at.was in
    record { before = front _ _ at; behind = back _ _ at; joined = search rules }
