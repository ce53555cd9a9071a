-- What is taken off the queue or off a wire is in hand, and is put down on a wire or in the queue.
use Rattle.std.specs.Prelude.{◌≡◌, List, [], ◌∷◌, ◌++◌, ℕ, ◌+◌, ◌<◌, eqb, length, get_or}
use Rattle.std.proofs.Math.Logic.{⊎_elim}
use mathlib.Core.List.Memᴰ
use Rattle.std.proofs.Common.{arith}
use Rattle.base.specs.Sums.{one}
use Rattle.base.specs.Lists.{total, remove, total-snoc, total-remove, mem-remove, mem-snoc}
use Rattle.room.specs.declared.Room.{Room}
use Rattle.table.specs.declared.Wire.{Wire}
use Rattle.table.specs.declared.Queued.{Queued}
use Rattle.table.specs.Formed.{is_token, is_named_in, tokens, names}
use Rattle.facts.specs.Moments.{QueuedFacts}
use Rattle.kept.specs.Moment.{Right, Moment, Sound}

-- how often a message names room c, and whether it carries the token
abbrev pub names_of : Wire → ℕ → ℕ
names_of w c = one (is_named_in c w.to w.message)

abbrev pub token_of : Wire → ℕ
token_of w = one (is_token w.message)

-- how often a place of the queue names room c
abbrev pub name_of : Queued → ℕ → ℕ
name_of q c = one (eqb q.room c)

module _ (n : ℕ) (rooms : ℕ → Room) (queue : List Queued) (messages : List Wire) where
  -- the message at k is taken off
  pub take-message : (k : ℕ) (d : Wire) → k < length messages → Sound n rooms queue messages
      → Moment n rooms queue (remove k messages) (names_of (get_or messages k d)) (token_of (get_or messages k d))
  unfolding tokens names
  take-message k d h s =
      record {
        room = s.room;
        queued = s.queued;
        right = λ w m. s.right w (mem-remove k messages m);
        token = omega (arith, s.token, total-remove (λ w. token_of w) messages k d h);
        named = λ c l. omega (arith, s.named c l, total-remove (λ w. names_of w c) messages k d h);
      }

  -- the head of the queue is taken off
  pub take-queued : (q : Queued) → Sound n rooms (q ∷ queue) messages → Moment n rooms queue messages (name_of q) 0
  unfolding names total
  take-queued q s =
      record {
        room = s.room;
        queued = λ p m. s.queued p (Memᴰ.tail m);
        right = s.right;
        token = s.token;
        named = λ c l. omega (arith, s.named c l);
      }

  module _ (hand left : ℕ → ℕ) (loose rest : ℕ) (s : Moment n rooms queue messages hand loose) where
    -- a message is put on its wire, with the names and the token that it carries
    pub put-message : (w : Wire) → Right n rooms w → ((c : ℕ) → c < n → hand c ≡ names_of w c + left c) → loose ≡ token_of w + rest
        → Moment n rooms queue (messages ++ (w ∷ [])) left rest
    unfolding tokens names
    put-message w r h l =
        record {
          room = s.room;
          queued = s.queued;
          right = λ v m. ⊎_elim (s.right v) (λ e. rw e r) (mem-snoc messages w m);
          token = omega (arith, s.token, l, total-snoc (λ w. token_of w) messages w);
          named = λ c b. omega (arith, s.named c b, h c b, total-snoc (λ w. names_of w c) messages w);
        }

    -- a room joins the end of the queue
    pub put-queued : (q : Queued) → QueuedFacts n rooms q → ((c : ℕ) → c < n → hand c ≡ name_of q c + left c) → loose ≡ rest
        → Moment n rooms (queue ++ (q ∷ [])) messages left rest
    unfolding names
    put-queued q r h l =
        record {
          room = s.room;
          queued = λ p m. ⊎_elim (s.queued p) (λ e. rw e r) (mem-snoc queue q m);
          right = s.right;
          token = omega (arith, s.token, l);
          named = λ c b. omega (arith, s.named c b, h c b, total-snoc (λ q. name_of q c) queue q);
        }
