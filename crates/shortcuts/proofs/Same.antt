-- With the choices that the rules make the step is the rules' own: from a fresh table the same events lead to the same tables.
use Rattle.std.specs.Prelude.{◌≡◌, refl, true, List, [], ◌∷◌, ℕ, ◌≤◌}
use Rattle.std.proofs.Common.{sym}
use Rattle.room.specs.Limits.{room_limit}
use Rattle.room.specs.Rules.{left, remaining, passed_to, passed, tokened_by, tokened, reduced}
use Rattle.table.specs.declared.Table.{Table}
use Rattle.table.specs.declared.Queued.{Queued}
use Rattle.table.specs.declared.Message.{Message}
use Rattle.table.specs.declared.Message.TheVariants as msg
use Rattle.table.specs.Tables.{fresh_table}
use Rattle.table.specs.Formed.{well_formed}
use Rattle.rules.specs.declared.Event.{Event}
use Rattle.rules.specs.Work.{Work, with_queue, change, join}
use Rattle.rules.specs.Rules.{hold, lend, pass, upgraded, serve_queue, serve, settle_or_serve, ask_with, ask_without, ask, hand_back, take_request, receive}
use Rattle.rules.specs.Step.{step_of, runs}
use Rattle.safe.specs.Reached.{Demand3}
use Rattle.safe.specs.Step.{Safe, step-safe}
use Rattle.safe.proofs.Always.{fresh_start, demand3}
use Rattle.variants.specs.Step.{step_by, runs_by}
use Rattle.variants.specs.Same.{Right, same_step}
use Rattle.shortcuts.specs.Choices.{right}
use Rattle.shortcuts.specs.Rules.{reduced_by, tokened_as, passed_as, pass_by, serve_queue_by, serve_by, settle_or_serve_by, ask_by, hand_back_by, take_request_by, receive_by, rules_by}

same-pass : (w : Work) (y m : ℕ) → pass_by right w y m ≡ pass w y m
unfolding pass_by pass passed_as passed passed_to remaining left
same-pass w y m = refl

same_queue : (w : Work) (queue : List Queued) → serve_queue_by right w queue ≡ serve_queue w queue
unfolding serve_queue_by serve_queue
same_queue w [] = refl
same_queue w (q ∷ rest) =
    rw (same_queue (hold w q.mode) rest, same_queue (lend w q.room q.mode) rest, same-pass (with_queue w rest) q.room q.mode) refl

same-serve : (w : Work) → serve_by right w ≡ serve w
unfolding serve_by serve
same-serve w = same_queue (upgraded w) w.queue

same_end : (w : Work) → settle_or_serve_by right w ≡ settle_or_serve w
unfolding settle_or_serve_by settle_or_serve
same_end w = rw (same-serve w) refl

same-ask : (w : Work) (m : ℕ) → ask_by right w m ≡ ask w m
unfolding ask_by ask ask_with ask_without
same-ask w m = refl

same-receive : (w : Work) (a : ℕ) (m : Message) → receive_by right w a m ≡ receive w a m
unfolding receive_by receive take_request_by take_request tokened_as tokened tokened_by reduced_by reduced
same-receive w a msg.Nothing = refl
same-receive w a (msg.Request o m idle) = rw (same-serve (join w o m)) refl
same-receive w a (msg.Grant m l) = refl
same-receive w a (msg.Token m rest l) = same-serve (change w (tokened w.room w.me a m rest l))
same-receive w a (msg.Reduce l m) = same_end _

rules-right : Right (rules_by right)
unfolding hand_back_by hand_back
rules-right = record { asks-right = same-ask; hands-back-right = λ w. same_end (hold w 0); receives-right = same-receive }

-- one step, where the test that is left out is passed
pub same_once : (t : Table) (e : Event) → well_formed t ≡ true → step_by (rules_by right) t e ≡ step_of t e
same_once t e formed = same_step (rules_by right) rules-right t e formed

same_runs : (n : ℕ) (es : List Event) (t : Table) → Safe n t → runs_by (rules_by right) t es ≡ runs t es
unfolding runs_by runs
same_runs n [] t s = refl
same_runs n (e ∷ es) t s = rw (same_once t e s.lawful.0) (same_runs n es (step_of t e).table (step-safe n t s e))

module _ (n : ℕ) (some : 1 ≤ n) (most : n ≤ room_limit) (es : List Event) where
  pub same-fresh : runs_by (rules_by right) (fresh_table n) es ≡ runs (fresh_table n) es
  same-fresh = same_runs n es (fresh_table n) (fresh_start n some most)

  -- so demand 3, first half, holds of every table that they lead to
  pub right-demand3 : Demand3 n (runs_by (rules_by right) (fresh_table n) es)
  right-demand3 = demand3 n (runs_by (rules_by right) (fresh_table n) es) (record { some = some; most = most; events = es; leads = sym same-fresh })
