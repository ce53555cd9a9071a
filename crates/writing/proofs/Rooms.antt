-- What is shown of a table: the first room that has the token, the messages, and each room's held mode.
use Rattle.std.proofs.Common.{◌≡◌, ℕ, ◌<◌, eqb, ltb, List, [], ◌∷◌, ◌++◌, map, None, Some, length, take, min, refl, ap, append_assoc, one-add, arith}
use Rattle.std.specs.List.{position, position_or_len}
use Rattle.room.specs.Limits.{room_limit}
use Rattle.std.proofs.lemmas.List.{take_min, length-take}
use Rattle.std.proofs.lemmas.List.Recursion.{is_position_or_len}
use Rattle.std.proofs.lemmas.Option.{cond_some}
use Rattle.base.specs.Choice.{split}
use Rattle.base.specs.Letters.{space, star}
use Rattle.room.specs.declared.Room.{Room}
use Rattle.table.specs.declared.Table.{Table}
use borrow.Author.Tests.{eqb-true, eqb-false}
use Rattle.writing.specs.Answers.{used, token_room, token_text, mode_text, decimal, spaced, shown}
use Rattle.writing.specs.Words.{held_text, rooms_text}

-- the room that the search gave

first : (rs : List Room) → token_room rs ≡ position_or_len (λ r. r.token) rs
unfolding token_room
first = is_position_or_len token_room (λ r. r.token) refl (λ r rs. rw one-add)

module _ (rs : List Room) where
  pub token_at : (place : ℕ) → position (λ r. r.token) rs ≡ Some place → decimal place ≡ token_text (token_room rs) (length rs)
  unfolding token_text
  token_at place e = let p = cond_some _ _ _ e in rw (first rs, p.0, p.1)

  pub token_nowhere : position (λ r. r.token) rs ≡ None → star ∷ [] ≡ token_text (token_room rs) (length rs)
  unfolding token_text
  token_nowhere e =
      rw (first rs) (split (ltb (position_or_len (λ r. r.token) rs) (length rs)) (λ p. absurd (let f = rw p at e in cc)) (λ p. rw p))

-- the held modes, each after a space
modes_spaced : (rs : List Room) → held_text rs ≡ spaced (map (λ r. mode_text r.held) rs)
unfolding spaced
modes_spaced [] = refl
modes_spaced (r ∷ rs) = ap (λ (bs : List ℕ). space ∷ (mode_text r.held ++ bs)) (modes_spaced rs)

-- so what is shown of the rooms that there are is what is shown of the table

shown_some : (rs : List Room) (count : ℕ) → 0 < length rs
    → rooms_text rs count ≡ spaced (token_text (token_room rs) (length rs) ∷ decimal count ∷ map (λ r. mode_text r.held) rs)
unfolding spaced
shown_some [] count some = absurd (omega arith)
shown_some (r ∷ rs) count some = rw (modes_spaced (r ∷ rs)) (append_assoc (space ∷ token_text (token_room (r ∷ rs)) (length (r ∷ rs))) (space ∷ decimal count) _)

pub shown_rooms : (t : Table) → length t.rooms ≡ room_limit → (n : ℕ) → n ≡ min t.n room_limit → rooms_text (take n t.rooms) t.count ≡ spaced (shown t)
unfolding spaced shown
shown_rooms t long n e =
    let cut : take n t.rooms ≡ used t = rw (e, ← long) (take_min t.n t.rooms) in
    split (eqb t.n 0) (λ p. let none = eqb-true t.n 0 p in rw (cut, p, none))
    (λ p. let some = eqb-false t.n 0 p in rw (cut, p) (shown_some (used t) t.count (omega (arith, length-take t.n t.rooms))))
