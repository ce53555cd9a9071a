-- The tests of the queue and of the messages need no more of the rooms than their standings.
use mathlib.Core.Path.{◌≡◌, refl}
use mathlib.Core.Bool.{true, false, not, ◌&&◌, and_assoc, and-false}
use Prim.Native.Nat.{ℕ, ◌<◌}
use lib.Dec.{ltb, eqb}
use borrow.Author.Tests.{ltb-true}
use Rattle.std.specs.Prelude.{Bool, Option, Some, None}
use native.Mathlib.Omega.{arith}
use Rattle.std.proofs.lemmas.Bool.Decides.{nat_tests}
use Rattle.base.specs.Choice.{split}
use Rattle.base.specs.Sums.{one}
use Rattle.room.specs.declared.Room.{Room}
use Rattle.table.specs.declared.Queued.{Queued}
use Rattle.table.specs.declared.Wire.{Wire}
use Rattle.table.specs.declared.Message.{Message}
use Rattle.table.specs.declared.Message.TheVariants as msg
use Rattle.table.specs.Formed.{due, queued_fine, message_fine, names_rightly, wire_fine, is_token, is_named_in}
use Rattle.formed.specs.Names.{carried_by}

-- two ways to tell the rooms, the same in the standings of the first n
module _ (n : ℕ) (f g : ℕ → Room) (dues : (c : ℕ) → c < n → due (f c) ≡ due (g c)) where
  pub queued-same : (q : Queued) → queued_fine n f q ≡ queued_fine n g q
  unfolding queued_fine
  queued-same q = split (ltb q.room n) (λ e. rw (dues q.room (ltb-true q.room n e))) (λ e. simp e)

  module _ (tokens : (c : ℕ) → c < n → (f c).token ≡ (g c).token) where
    names_same : (to : ℕ) → to < n → (m : Message) → (message_fine n m && names_rightly f to m) ≡ (message_fine n m && names_rightly g to m)
    unfolding message_fine names_rightly
    names_same to h msg.Nothing = refl
    names_same to h (msg.Request o m idle) = split (ltb o n) (λ e. rw (dues o (ltb-true o n e))) (λ e. simp e)
    names_same to h (msg.Grant m l) = rw (dues to h, tokens to h)
    names_same to h (msg.Token m rest l) = rw (dues to h)
    names_same to h (msg.Reduce l m) = refl

    pub wire-same : (w : Wire) → wire_fine n f w ≡ wire_fine n g w
    unfolding wire_fine
    wire-same w =
        split (ltb w.to n)
        (λ e. rw (
          and_assoc (ltb w.«from» n && ltb w.to n && not (eqb w.«from» w.to)) (message_fine n w.message) (names_rightly f w.to w.message),
          and_assoc (ltb w.«from» n && ltb w.to n && not (eqb w.«from» w.to)) (message_fine n w.message) (names_rightly g w.to w.message),
          names_same w.to (ltb-true w.to n e) w.message,
        ))
        (λ e. simp (e, and-false))

-- whether a message, of which this is told, names the room c
abbrev pub names_room : Option ℕ → ℕ → Bool
names_room None c = false
names_room (Some o) c = eqb o c

pub names-nobody : (o : Option ℕ) → ((x : ℕ) → o ≡ Some x → ⊥) → (c : ℕ) → names_room o c ≡ false
names-nobody None h c = refl
names-nobody (Some x) h c = absurd (h x refl)

-- a message names the room that is found in it, and carries as many tokens
pub named-is : (c to : ℕ) (m : Message) → is_named_in c to m ≡ names_room (carried_by to m).room c
unfolding is_named_in carried_by
named-is c to msg.Nothing = refl
named-is c to (msg.Request o m idle) = refl
named-is c to (msg.Grant m l) = refl
named-is c to (msg.Token m rest l) = refl
named-is c to (msg.Reduce l m) = refl

pub tokens-are : (to : ℕ) (m : Message) → (carried_by to m).tokens ≡ one (is_token m)
unfolding is_token carried_by
tokens-are to msg.Nothing = refl
tokens-are to (msg.Request o m idle) = refl
tokens-are to (msg.Grant m l) = refl
tokens-are to (msg.Token m rest l) = refl
tokens-are to (msg.Reduce l m) = refl

-- the room that a message names is below n
pub named-low : (n to : ℕ) (m : Message) → to < n → message_fine n m ≡ true → (o : ℕ) → (carried_by to m).room ≡ Some o → o < n
unfolding message_fine carried_by
named-low n to msg.Nothing h f o e = absurd (cc)
named-low n to (msg.Request p m idle) h f o e = let same : p ≡ o = cc in grind (arith, nat_tests)
named-low n to (msg.Grant m l) h f o e = let same : to ≡ o = cc in omega arith
named-low n to (msg.Token m rest l) h f o e = let same : to ≡ o = cc in omega arith
named-low n to (msg.Reduce l m) h f o e = absurd (cc)
