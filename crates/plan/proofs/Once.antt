-- A contract that says `planned_in result ≡ ..` decides the result: two results that say one thing are one.
use Rattle.std.proofs.Common.{◌≡◌, sym, ap, Result, Ok, Err}
use Rattle.table.specs.declared.refusal.Refusal.{Refusal}
use Rattle.table.proofs.Known.{number-some}
use Rattle.table.proofs.Once.{one-refusal}
use Rattle.plan.specs.Plans.{Making, Planned, planned_in}

pub planned-once : (r s : Result Making Refusal) → planned_in r ≡ planned_in s → r ≡ s
planned-once (Ok p) (Ok q) e = ap (λ (x : Planned). Ok (record { me = x.me; taken = x.taken; done = x.done })) e
planned-once (Ok p) (Err b) e = absurd (number-some b (sym (ap (λ (x : Planned). x.«number») e)))
planned-once (Err a) (Ok q) e = absurd (number-some a (ap (λ (x : Planned). x.«number») e))
planned-once (Err a) (Err b) e = ap (λ (x : Refusal). Err x) (one-refusal a b (ap (λ (x : Planned). x.«number») e))
