-- Each page of streams beside each other stands once among those that were left.
use Rattle.std.proofs.Common.{◌≡◌, ◌≢◌, ◌∙◌, ◌⊎◌, inl, inr, ℕ, zero, suc, ◌+◌, ◌<◌, ◌≤◌, ◌==◌, false, if◌then◌else◌, List, [], ◌∷◌, ◌++◌, map, Some, refl, ap, sym, subst, arith, ne_eqb, eqb-true, eq-eqb, true≢false, eqb}
use Rattle.std.specs.Prelude.{All, slice_get}
use Rattle.std.specs.List.{AllByRecursion, IsDistinct, sum_by}
use Rattle.std.specs.List.Sorted.{IsPermutation}
use Rattle.std.specs.Str.{bytes_eq}
use Rattle.std.proofs.lemmas.Bool.{cases_Bool}
use Rattle.std.proofs.lemmas.List.Elements.{All-head, All-tail}
use Rattle.std.proofs.lemmas.List.Sorted.{IsPermutation-cons, IsPermutation-middle, IsPermutation-refl, IsPermutation-sym, IsPermutation-trans}
use Rattle.std.proofs.lemmas.List.Sums.{sum_by-append, sum_by-cons}
use Rattle.std.proofs.lemmas.Slice.Eq.{bytes_eq-Decides}
use Rattle.store_api.specs.Tokens.{PageToken}
use Rattle.tuple_stream.specs.Streamed.{Streamed}
use Rattle.tuple_stream.specs.Streams.{AreApart, IsApart}
use Rattle.tuple_stream.specs.Trails.{Left}
use Rattle.tuple_stream.specs.Families.{AreDisjoint}

-- ---- what all marks tell

abbrev is_it : List ℕ → List ℕ → ℕ
is_it x y = if bytes_eq x y then 1 else 0

is_self : (x : List ℕ) → is_it x x ≡ 1
is_self x = rw ((bytes_eq-Decides x x).1 refl) refl

found : (x : List ℕ) (ys : List (List ℕ)) → 0 < sum_by (is_it x) ys → (front : List (List ℕ)) × (back : List (List ℕ)) × (ys ≡ front ++ x ∷ back)
found x [] some = absurd (omega (arith, some))
found x (y ∷ ys) some = elim (cases_Bool (bytes_eq x y)) [
  | inl is ↦ ([], ys, ap (λ (z : List ℕ). z ∷ ys) (sym ((bytes_eq-Decides x y).0 is)))
  | inr not ↦
      let all : sum_by (is_it x) (y ∷ ys) ≡ is_it x y + sum_by (is_it x) ys = sum_by-cons (is_it x) y ys in
      let none : is_it x y ≡ 0 = rw not refl in
      let rest = found x ys (omega (arith, some, all, none)) in
      (y ∷ rest.0, rest.1, ap (λ (zs : List (List ℕ)). y ∷ zs) rest.2)
]

none_there : (ys : List (List ℕ)) → sum_by (λ y. 1) ys ≡ 0 → ys ≡ []
none_there [] none = refl
none_there (y ∷ ys) none =
    let all : sum_by (λ y. 1) (y ∷ ys) ≡ 1 + sum_by (λ y. 1) ys = sum_by-cons (λ (y : List ℕ). 1) y ys in
    absurd (omega (arith, none, all))

-- rows that each mark sums to the same are the same in some order
pub marks_permute : (xs ys : List (List ℕ)) → ((mark : List ℕ → ℕ) → sum_by mark xs ≡ sum_by mark ys) → IsPermutation xs ys
marks_permute [] ys same = subst (IsPermutation []) (sym (none_there ys (sym (same (λ y. 1))))) (IsPermutation-refl [])
marks_permute (x ∷ xs) ys same =
    let first : sum_by (is_it x) (x ∷ xs) ≡ is_it x x + sum_by (is_it x) xs = sum_by-cons (is_it x) x xs in
    let one = is_self x in
    let equal = same (is_it x) in
    let at = found x ys (omega (arith, first, one, equal)) in
    let rest : (mark : List ℕ → ℕ) → sum_by mark xs ≡ sum_by mark (at.0 ++ at.1) =
    λ mark.
    let head : sum_by mark (x ∷ xs) ≡ mark x + sum_by mark xs = sum_by-cons mark x xs in
    let tail : sum_by mark (x ∷ at.1) ≡ mark x + sum_by mark at.1 = sum_by-cons mark x at.1 in
    let both : sum_by mark (at.0 ++ x ∷ at.1) ≡ sum_by mark at.0 + sum_by mark (x ∷ at.1) = sum_by-append mark at.0 (x ∷ at.1) in
    let fewer : sum_by mark (at.0 ++ at.1) ≡ sum_by mark at.0 + sum_by mark at.1 = sum_by-append mark at.0 at.1 in
    let all : sum_by mark (x ∷ xs) ≡ sum_by mark (at.0 ++ x ∷ at.1) = same mark ∙ ap (sum_by mark) at.2 in
    omega (arith, head, tail, both, fewer, all) in
    subst (IsPermutation (x ∷ xs)) (sym at.2)
    (IsPermutation-trans (x ∷ xs) (x ∷ (at.0 ++ at.1)) (at.0 ++ x ∷ at.1) (IsPermutation-cons x xs (at.0 ++ at.1) (marks_permute xs (at.0 ++ at.1) rest))
    (IsPermutation-sym (at.0 ++ x ∷ at.1) (x ∷ (at.0 ++ at.1)) (IsPermutation-middle at.0 x at.1)))

-- ---- names

abbrev pub named : ℕ → PageToken → ℕ
named name p = if p.name == name then 1 else 0

abbrev pub left_named : ℕ → Left → ℕ
left_named name l = if l.name == name then 1 else 0

apart_none : (name : ℕ) (pages : List PageToken) → IsApart name pages → sum_by (named name) pages ≡ 0
apart_none name [] apart = refl
apart_none name (p ∷ pages) apart =
    let all : sum_by (named name) (p ∷ pages) ≡ named name p + sum_by (named name) pages = sum_by-cons (named name) p pages in
    let off : named name p ≡ 0 = rw (ne_eqb p.name name (All-head (λ p. p.name ≢ name) p pages apart)) refl in
    let rest = apart_none name pages (All-tail (λ p. p.name ≢ name) p pages apart) in
    omega (arith, all, off, rest)

apart_once : (name : ℕ) (pages : List PageToken) → AreApart pages → sum_by (named name) pages ≤ 1
apart_once name [] apart = omega arith
apart_once name (p ∷ pages) apart =
    let all : sum_by (named name) (p ∷ pages) ≡ named name p + sum_by (named name) pages = sum_by-cons (named name) p pages in
    elim (cases_Bool (p.name == name)) [
      | inl is ↦
          let one : named name p ≡ 1 = rw is refl in
          let rest = apart_none name pages (subst (λ (n : ℕ). IsApart n pages) (eqb-true p.name name is) apart.0) in
          omega (arith, all, one, rest)
      | inr not ↦
          let none : named name p ≡ 0 = rw not refl in
          let rest = apart_once name pages apart.1 in
          omega (arith, all, none, rest)
    ]

none_shared : (name : ℕ) (pages qs : List PageToken) → All (λ q. IsApart q.name pages) qs → 0 < sum_by (named name) pages → sum_by (named name) qs ≡ 0
none_shared name pages [] apart some = refl
none_shared name pages (q ∷ qs) apart some =
    let all : sum_by (named name) (q ∷ qs) ≡ named name q + sum_by (named name) qs = sum_by-cons (named name) q qs in
    let rest = none_shared name pages qs (All-tail (λ q. IsApart q.name pages) q qs apart) some in
    elim (cases_Bool (q.name == name)) [
      | inl is ↦
          let none = apart_none name pages (subst (λ (n : ℕ). IsApart n pages) (eqb-true q.name name is) (All-head (λ q. IsApart q.name pages) q qs apart)) in
          absurd (omega (arith, none, some))
      | inr not ↦ let off : named name q ≡ 0 = rw not refl in omega (arith, all, off, rest)
    ]

pub none_in : (name : ℕ) (streams : List Streamed) → ((i : ℕ) (s : Streamed) → slice_get streams i ≡ Some s → sum_by (named name) s.pages ≡ 0) → sum_by (λ s. sum_by (named name) s.pages) streams ≡ 0
none_in name [] each = refl
none_in name (s ∷ streams) each =
    let all : sum_by (λ s. sum_by (named name) s.pages) (s ∷ streams) ≡ sum_by (named name) s.pages + sum_by (λ s. sum_by (named name) s.pages) streams = sum_by-cons (λ (s : Streamed). sum_by (named name) s.pages) s streams in
    let first = each 0 s refl in
    let rest = none_in name streams (λ i x there. each (suc i) x there) in
    omega (arith, all, first, rest)

none_or : (n : ℕ) → (n ≡ 0) ⊎ (0 < n)
none_or zero = inl refl
none_or (suc n) = inr (omega arith)

pub once_in : (name : ℕ) (streams : List Streamed) → ((i : ℕ) (s : Streamed) → slice_get streams i ≡ Some s → AreApart s.pages)
    → ((i j : ℕ) (a b : Streamed) → i ≢ j → slice_get streams i ≡ Some a → slice_get streams j ≡ Some b → AreDisjoint a b)
    → sum_by (λ s. sum_by (named name) s.pages) streams ≤ 1
once_in name [] each apart = omega arith
once_in name (s ∷ streams) each apart =
    let all : sum_by (λ s. sum_by (named name) s.pages) (s ∷ streams) ≡ sum_by (named name) s.pages + sum_by (λ s. sum_by (named name) s.pages) streams = sum_by-cons (λ (s : Streamed). sum_by (named name) s.pages) s streams in
    let own = apart_once name s.pages (each 0 s refl) in
    elim (none_or (sum_by (named name) s.pages)) [
      | inl none ↦
          let rest = once_in name streams (λ i x there. each (suc i) x there) (λ i j a b other one two. apart (suc i) (suc j) a b (λ same. other (omega (arith, same))) one two) in
          omega (arith, all, none, rest)
      | inr some ↦
          let rest = none_in name streams (λ i x there. none_shared name s.pages x.pages (apart 0 (suc i) s x (λ same. omega (arith, same)) refl there) some) in
          omega (arith, all, own, rest)
    ]

none_same : (name : ℕ) (ls : List Left) → sum_by (left_named name) ls ≡ 0 → AllByRecursion (λ y. eqb name y ≡ false) (map (λ l. l.name) ls)
none_same name [] none = tt
none_same name (l ∷ ls) none =
    let all : sum_by (left_named name) (l ∷ ls) ≡ left_named name l + sum_by (left_named name) ls = sum_by-cons (left_named name) l ls in
    let rest = none_same name ls (omega (arith, none, all)) in
    elim (cases_Bool (l.name == name)) [
      | inl is ↦ let one : left_named name l ≡ 1 = rw is refl in absurd (omega (arith, none, all, one))
      | inr not ↦ (ne_eqb name l.name (λ same. true≢false (sym (eq-eqb l.name name (sym same)) ∙ not)), rest)
    ]

pub distinct_left : (ls : List Left) → ((name : ℕ) → sum_by (left_named name) ls ≤ 1) → IsDistinct eqb (map (λ l. l.name) ls)
unfolding IsDistinct
distinct_left [] once = tt
distinct_left (l ∷ ls) once =
    let each : (name : ℕ) → sum_by (left_named name) (l ∷ ls) ≡ left_named name l + sum_by (left_named name) ls = λ name. sum_by-cons (left_named name) l ls in
    let mine : left_named l.name l ≡ 1 = rw (eq-eqb l.name l.name refl) refl in
    let own = each l.name in
    let once_own = once l.name in
    (none_same l.name ls (omega (arith, mine, own, once_own)), distinct_left ls (λ name. let all = each name in let most = once name in omega (arith, all, most)))
