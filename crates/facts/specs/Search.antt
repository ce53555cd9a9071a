-- What the search for the oldest message finds is among the messages, at the place that it names.
use Rattle.std.specs.Prelude.{◌≡◌, true, false, List, [], ◌∷◌, ℕ, zero, suc, ◌+◌, ◌<◌, eqb, length, get_or, Some}
use Rattle.std.proofs.Common.{◌∙◌, ap, arith, eqb-true}
use Rattle.base.specs.Choice.{split}
use Rattle.base.specs.Tests.{and_left, and_right}
use Rattle.table.specs.declared.Found.{Found}
use Rattle.table.specs.declared.Table.{Table}
use Rattle.table.specs.declared.Wire.{Wire}
use Rattle.table.specs.declared.Message.{Message}
use Rattle.table.specs.Tables.{no_wire, messages_of}
use Rattle.table.specs.Oldest.{found_at, between, oldest_in, oldest_of}

-- what is found is one in place and message
same-found : (f g : Found) → Some f ≡ Some g → f ≡ g
same-found f g e = cc

-- the place of the message that the search finds, and the message there
search-place : (a b i : ℕ) (l : List Wire) (k : ℕ) (m : Message) → oldest_in a b i l ≡ Some (found_at k m)
    → (j : ℕ) × (k ≡ i + j) × (j < length l) × (get_or l j no_wire ≡ record { «from» = a; to = b; message = m })
unfolding oldest_in
search-place a b i [] k m h = let z : ◌≡◌ {A = ℕ} 0 1 = cc in absurd (omega arith)
search-place a b i (w ∷ l) k m h =
    let further = search-place a b (suc i) l k m in
    split (between a b w) (λ e. here e (rw e at h)) (λ e. there (further (rw e at h)))
  where
    here : between a b w ≡ true → Some (found_at i w.message) ≡ Some (found_at k m)
        → (j : ℕ) × (k ≡ i + j) × (j < suc (length l)) × (get_or (w ∷ l) j no_wire ≡ record { «from» = a; to = b; message = m })
    here e p = (zero, omega (arith, place), omega arith, λ x. record { «from» = sender x; to = receiver x; message = message x })
      where
        place : i ≡ k
        place = ap (λ (f : Found). f.place) (same-found _ _ p)

        sender : w.«from» ≡ a
        sender = eqb-true _ _ (and_left _ _ e)

        receiver : w.to ≡ b
        receiver = eqb-true _ _ (and_right (eqb w.«from» a) _ e)

        message : w.message ≡ m
        message = ap (λ (f : Found). f.message) (same-found _ _ p)

    there : (j : ℕ) × (k ≡ suc i + j) × (j < length l) × (get_or l j no_wire ≡ record { «from» = a; to = b; message = m })
        → (j : ℕ) × (k ≡ i + j) × (j < suc (length l)) × (get_or (w ∷ l) j no_wire ≡ record { «from» = a; to = b; message = m })
    there p = (suc p.0, omega (arith, p.1), omega (arith, p.2), p.3)

-- none before it goes from a to b
search-before : (a b i : ℕ) (l : List Wire) (k : ℕ) (m : Message) → oldest_in a b i l ≡ Some (found_at k m) → (j : ℕ) → i + j < k → between a b (get_or l j no_wire) ≡ false
unfolding oldest_in
search-before a b i [] k m h j low = let z : ◌≡◌ {A = ℕ} 0 1 = cc in absurd (omega arith)
search-before a b i (w ∷ l) k m h zero low =
    split (between a b w) (λ e. absurd (omega (arith, at (rw e at h)))) (λ e. e)
  where
    at : Some (found_at i w.message) ≡ Some (found_at k m) → i ≡ k
    at p = ap (λ (f : Found). f.place) (same-found _ _ p)
search-before a b i (w ∷ l) k m h (suc j) low =
    split (between a b w) (λ e. absurd (omega (arith, at (rw e at h)))) (λ e. search-before a b (suc i) l k m (rw e at h) j (omega arith))
  where
    at : Some (found_at i w.message) ≡ Some (found_at k m) → i ≡ k
    at p = ap (λ (f : Found). f.place) (same-found _ _ p)

module _ (t : Table) (a b k : ℕ) (m : Message) (h : oldest_of t a b ≡ Some (found_at k m)) where
  place : (j : ℕ) × (k ≡ 0 + j) × (j < length (messages_of t)) × (get_or (messages_of t) j no_wire ≡ record { «from» = a; to = b; message = m })
  unfolding oldest_of
  place = search-place a b 0 (messages_of t) k m h

  pub oldest-low : k < length (messages_of t)
  oldest-low = omega (arith, place.1, place.2)

  pub oldest-there : get_or (messages_of t) k no_wire ≡ record { «from» = a; to = b; message = m }
  oldest-there = ap (λ (j : ℕ). get_or (messages_of t) j no_wire) (omega (arith, place.1)) ∙ place.3

  pub oldest-first : (j : ℕ) → j < k → between a b (get_or (messages_of t) j no_wire) ≡ false
  unfolding oldest_of
  oldest-first j l = search-before a b 0 (messages_of t) k m h j (omega arith)
