-- What is so of the first elements, of one more of them.
use Rattle.std.proofs.Common.{◌≡◌, ◌∙◌, ℕ, ◌+◌, ◌<◌, suc, List, [], ◌∷◌, ◌++◌, length, take, get_or, sym, subst, ap, arith}
use Rattle.std.specs.Prelude.{All}
use Rattle.std.proofs.Math.Seq.{take-suc}
use Rattle.std.proofs.lemmas.List.Elements.{All-push}

pub all_more : {A : Type 0} (P : A → Type 0) (xs : List A) (i : ℕ) (x : A) → i < length xs → x ≡ get_or xs i x → All P (take i xs) → P x → All P (take (i + 1) xs)
all_more P xs i x below is before here =
    let one : i + 1 ≡ suc i = omega arith in
    let more = ap (λ (n : ℕ). take n xs) one ∙ take-suc xs i x below in
    subst (All P) (sym more) (subst (λ y. All P (take i xs ++ y ∷ [])) is (All-push P (take i xs) x before here))
