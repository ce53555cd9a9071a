-- A contract that says `answer_in t result ≡ ..` decides the result: two results with one answer are one.
use Rattle.std.proofs.Common.{◌≡◌, ℕ, refl, sym, ap, ◌∙◌, eqb, if◌then◌else◌, Result, Ok, Err}
use Rattle.table.specs.declared.Table.{Table}
use Rattle.table.specs.declared.refusal.Refusal.{Refusal}
use Rattle.table.specs.declared.refusal.Refusal.TheVariants as refusal
use Rattle.table.specs.Numbers.{number_of}
use Rattle.table.specs.Tables.{Answer, answer_in}
use Rattle.table.proofs.Known.{number-some}

-- the refusal with a number
refusal_of : ℕ → Refusal
refusal_of k =
    if eqb k 1 then refusal.Table
    else (if eqb k 2 then refusal.Event
    else (if eqb k 3 then refusal.Room
    else (if eqb k 4 then refusal.Mode
    else (if eqb k 5 then refusal.Waiting
    else (if eqb k 6 then refusal.Held
    else (if eqb k 7 then refusal.NotHeld
    else (if eqb k 8 then refusal.Empty
    else (if eqb k 9 then refusal.Busy
    else (if eqb k 10 then refusal.Worn
    else refusal.Full)))))))))

back : (why : Refusal) → refusal_of (number_of why) ≡ why
unfolding refusal_of
back refusal.Table = refl
back refusal.Event = refl
back refusal.Room = refl
back refusal.Mode = refl
back refusal.Waiting = refl
back refusal.Held = refl
back refusal.NotHeld = refl
back refusal.Empty = refl
back refusal.Busy = refl
back refusal.Worn = refl
back refusal.Full = refl

-- no two refusals have one number
pub one-refusal : (a b : Refusal) → number_of a ≡ number_of b → a ≡ b
one-refusal a b e = sym (back a) ∙ ap refusal_of e ∙ back b

pub answered-once : (t : Table) (r s : Result Table Refusal) → answer_in t r ≡ answer_in t s → r ≡ s
answered-once t (Ok u) (Ok v) e = ap (λ (x : Answer). Ok x.table) e
answered-once t (Ok u) (Err b) e = absurd (number-some b (sym (ap (λ (x : Answer). x.«number») e)))
answered-once t (Err a) (Ok v) e = absurd (number-some a (ap (λ (x : Answer). x.«number») e))
answered-once t (Err a) (Err b) e = ap (λ (x : Refusal). Err x) (one-refusal a b (ap (λ (x : Answer). x.«number») e))
