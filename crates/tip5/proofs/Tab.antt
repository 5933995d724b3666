-- Lists by their elements: the loops that fill one, its length and its elements. Assumes nothing.
use mathlib.Core.Bool.{Bool, true, false}
use mathlib.Core.List.{List, [], ◌∷◌, ◌++◌}
use mathlib.Core.Path.{◌≡◌, refl, sym, ap, ◌∙◌}
use Prim.Native.Nat.{ℕ, zero, suc, ◌+◌, ◌<◌, ◌≤◌}
use native.Mathlib.Nat.{le_of_eq}
use native.Mathlib.Numerals.{add-one}
use native.Mathlib.Omega.{arith}
use borrow.Author.Tests.{ltb-true, ltb-false}
use lib.Dec.{ltb, T, ltb→lt}
use lib.ListN.{replicate, length, take, drop, get_or, set, length-replicate, length-set, length-append, length-take, length-drop, get_or-append}
use lib.Seq.{take-suc-set, take_all, get_or_at, get_or-take, get_or-drop, ext_get_or}
use Rattle.tip5.specs.Tab.{tab, tab_zero, tab_suc}

-- the first i of the n elements of l are those that f makes: what a loop that fills a list from the front keeps
pub record Filled (f : ℕ → ℕ) (l : List ℕ) (n i : ℕ) : Type 0 where
  pub long : length l ≡ n
  pub made : take i l ≡ tab f i

pub filled_none : (f : ℕ → ℕ) (n : ℕ) → Filled f (replicate n 0) n 0
filled_none f n = record { long = length-replicate n 0; made = sym (tab_zero f) }

pub filled_more : (f : ℕ → ℕ) (l : List ℕ) (n i a : ℕ) → Filled f l n i → i < n → a ≡ f i → Filled f (set l i a) n (i + 1)
filled_more f l n i a h g e =
    record {
      long = length-set l i a ∙ h.long;
      made = ap (λ (k : ℕ). take k (set l i a)) (add-one i) ∙ take-suc-set l i a (rw h.long g) ∙ (λ k. h.made k ++ (e k ∷ [])) ∙ sym (ap (tab f) (add-one i) ∙ tab_suc f i);
    }

pub filled_all : (f : ℕ → ℕ) (l : List ℕ) (n i : ℕ) → Filled f l n i → i ≡ n → l ≡ tab f n
filled_all f l n i h g = sym (ap (λ (k : ℕ). take k l) g ∙ take_all n l (le_of_eq h.long)) ∙ h.made ∙ ap (tab f) g

pub tab-length : (f : ℕ → ℕ) (n : ℕ) → length (tab f n) ≡ n
tab-length f zero = ap length (tab_zero f)
tab-length f (suc n) = ap length (tab_suc f n) ∙ length-append (tab f n) (f n ∷ []) ∙ ap (λ (k : ℕ). k + 1) (tab-length f n) ∙ add-one n

last_or_before : (f : ℕ → ℕ) (n k : ℕ) (b : Bool) → ltb k n ≡ b → (k < n → get_or (tab f n) k 0 ≡ f k) → k < suc n → get_or (tab f n ++ (f n ∷ [])) k 0 ≡ f k
last_or_before f n k true e before h =
    let l : k < n = ltb-true k n e in
    get_or-append (tab f n) (f n ∷ []) 0 k (rw (tab-length f n) l) ∙ before l
last_or_before f n k false e before h =
    let g = ltb-false k n e in
    let is : n ≡ k = omega arith in
    get_or_at (tab f n) (f n) [] 0 k (tab-length f n ∙ is) ∙ ap f is

pub tab-at : (f : ℕ → ℕ) (n k : ℕ) → k < n → get_or (tab f n) k 0 ≡ f k
tab-at f zero k h = absurd (omega arith)
tab-at f (suc n) k h = ap (λ (l : List ℕ). get_or l k 0) (tab_suc f n) ∙ last_or_before f n k (ltb k n) refl (tab-at f n k) h

-- an element of a list that is made so
pub tab-element : (f : ℕ → ℕ) (l : List ℕ) (n k : ℕ) → l ≡ tab f n → k < n → get_or l k 0 ≡ f k
tab-element f l n k e h = ap (λ (m : List ℕ). get_or m k 0) e ∙ tab-at f n k h

-- the first n, where a loop that fills them has come to n
pub tab-first : (f : ℕ → ℕ) (l : List ℕ) (i n : ℕ) → i ≡ n → take i l ≡ tab f i → take n l ≡ tab f n
tab-first f l i n g e = sym (ap (λ (k : ℕ). take k l) g) ∙ e ∙ ap (tab f) g

-- an element of the first i, where these are made so
pub tab-stored : (f : ℕ → ℕ) (l : List ℕ) (i k : ℕ) → take i l ≡ tab f i → k < i → get_or l k 0 ≡ f k
tab-stored f l i k e h = sym (get_or-take i l k 0 h) ∙ tab-element f (take i l) i k e h

-- one computed equation, carried to each element
pub tab-same : (f g : ℕ → ℕ) (n k : ℕ) → tab f n ≡ tab g n → k < n → f k ≡ g k
tab-same f g n k e h = sym (tab-at f n k h) ∙ ap (λ (l : List ℕ). get_or l k 0) e ∙ tab-at g n k h

-- a list is what its elements make
pub tab_of : (f : ℕ → ℕ) (n : ℕ) (l : List ℕ) → length l ≡ n → ((k : ℕ) → k < n → get_or l k 0 ≡ f k) → l ≡ tab f n
tab_of f n l h e =
    ext_get_or 0 l (tab f n) (h ∙ sym (tab-length f n)) (λ (i : ℕ) (g : i < length l). let m : i < n = omega arith in e i m ∙ sym (tab-at f n i m))

pub tab_cong : (f g : ℕ → ℕ) (n : ℕ) → ((k : ℕ) → k < n → f k ≡ g k) → tab f n ≡ tab g n
tab_cong f g n e = tab_of g n (tab f n) (tab-length f n) (λ (k : ℕ) (h : k < n). tab-at f n k h ∙ e k h)

-- a part of a list
pub tab-part : (l : List ℕ) (k n : ℕ) → k + n ≤ length l → take n (drop k l) ≡ tab (λ (j : ℕ). get_or l (k + j) 0) n
tab-part l k n h =
    tab_of _ n (take n (drop k l))
    (simp (length-take, length-drop) (omega arith))
    (λ (j : ℕ) (g : j < n). get_or-take n (drop k l) j 0 g ∙ get_or-drop k l j 0)

pub zeros_at : (n k : ℕ) → ◌≡◌ {A = ℕ} (get_or (replicate n 0) k 0) 0
zeros_at zero k = refl
zeros_at (suc n) zero = refl
zeros_at (suc n) (suc k) = zeros_at n k

-- ---- elements below a bound; what stands past a list's end is 0

pub append-below : (l m : List ℕ) (b : ℕ) → ((k : ℕ) → get_or l k 0 < b) → ((k : ℕ) → get_or m k 0 < b) → (k : ℕ) → get_or (l ++ m) k 0 < b
append-below [] m b h g k = g k
append-below (x ∷ l) m b h g zero = h 0
append-below (x ∷ l) m b h g (suc k) = append-below l m b (λ (j : ℕ). h (suc j)) g k

pub take_below : (n : ℕ) (l : List ℕ) (b : ℕ) → 0 < b → ((k : ℕ) → get_or l k 0 < b) → (k : ℕ) → get_or (take n l) k 0 < b
take_below zero l b z h k = z
take_below (suc n) [] b z h k = z
take_below (suc n) (x ∷ l) b z h zero = h 0
take_below (suc n) (x ∷ l) b z h (suc k) = take_below n l b z (λ (j : ℕ). h (suc j)) k

one_below : (a b : ℕ) → 0 < b → a < b → (k : ℕ) → get_or (a ∷ []) k 0 < b
one_below a b z h zero = h
one_below a b z h (suc k) = z

pub tab-below : (f : ℕ → ℕ) (b : ℕ) → 0 < b → ((k : ℕ) → f k < b) → (n k : ℕ) → get_or (tab f n) k 0 < b
unfolding tab
tab-below f b z h zero k = z
tab-below f b z h (suc n) k = append-below (tab f n) (f n ∷ []) b (tab-below f b z h n) (one_below (f n) b z (h n)) k

pub set_below : (l : List ℕ) (i a b : ℕ) → ((k : ℕ) → get_or l k 0 < b) → a < b → (k : ℕ) → get_or (set l i a) k 0 < b
set_below [] i a b h g k = h k
set_below (x ∷ l) zero a b h g zero = g
set_below (x ∷ l) zero a b h g (suc k) = h (suc k)
set_below (x ∷ l) (suc i) a b h g zero = h 0
set_below (x ∷ l) (suc i) a b h g (suc k) = set_below l i a b (λ (j : ℕ). h (suc j)) g k

-- a test that antt computes over a list, and what it says of each element
abbrev pub both : Bool → Bool → Bool
both true c = c
both false c = false

abbrev pub all_below : ℕ → List ℕ → Bool
all_below b [] = true
all_below b (x ∷ l) = both (ltb x b) (all_below b l)

both_left : (a c : Bool) → T (both a c) → T a
both_left true c t = tt
both_left false c t = t

both_right : (a c : Bool) → T (both a c) → T c
both_right true c t = t
both_right false c t = absurd t

pub list_below : (b : ℕ) (l : List ℕ) → 0 < b → T (all_below b l) → (k : ℕ) → get_or l k 0 < b
list_below b [] z t k = z
list_below b (x ∷ l) z t zero = ltb→lt x b (both_left (ltb x b) (all_below b l) t)
list_below b (x ∷ l) z t (suc k) = list_below b l z (both_right (ltb x b) (all_below b l) t) k
