-- A function that differs from another at one number is that other with a new value there.
use Rattle.std.proofs.Common.{◌≡◌, ◌≢◌, ℕ, Option, Some, None, IsSome, refl, sym, ap, ◌∙◌, inl, inr, ne_eqb, eq-eqb}
use Rattle.std.proofs.Math.Path.{fun_ext}
use Rattle.std.proofs.lemmas.Bool.{cases_eq}
use Rattle.store_api.specs.Holdings.{put, or_else}

module _ {X : Type 0} where
  pub put_here : (k : ℕ) (v : Option X) (f : ℕ → Option X) → put k v f k ≡ v
  put_here k v f = rw (eq-eqb k k refl) refl

  pub put_there : (k q : ℕ) (v : Option X) (f : ℕ → Option X) → q ≢ k → put k v f q ≡ f q
  put_there k q v f apart = rw (ne_eqb q k apart) refl

  pub puts : (f g : ℕ → Option X) (k : ℕ) (v : Option X) → g k ≡ v → ((q : ℕ) → q ≢ k → g q ≡ f q) → g ≡ put k v f
  puts f g k v here there =
      fun_ext (λ q. elim (cases_eq q k) [
        | inl same ↦ ap g same ∙ here ∙ sym (put_here k v f) ∙ ap (put k v f) (sym same)
        | inr apart ↦ there q apart ∙ sym (put_there k q v f apart)
      ])

  -- to put what is there already changes nothing
  pub put_same : (f : ℕ → Option X) (k : ℕ) (v : Option X) → f k ≡ v → put k v f ≡ f
  put_same f k v is = sym (puts f f k v is (λ q apart. refl))

  -- what is there is read, and not what stands for none
  pub there : (other : X) (o : Option X) → IsSome o → o ≡ Some (or_else other o)
  there other None some = absurd (cc)
  there other (Some x) some = refl

  -- what was put is put over
  pub put_twice : (k : ℕ) (v w : Option X) (f : ℕ → Option X) (q : ℕ) → put k v (put k w f) q ≡ put k v f q
  put_twice k v w f q = elim (cases_eq q k) [
    | inl same ↦ ap (put k v (put k w f)) same ∙ put_here k v (put k w f) ∙ sym (put_here k v f) ∙ ap (put k v f) (sym same)
    | inr far ↦ put_there k q v (put k w f) far ∙ put_there k q w f far ∙ sym (put_there k q v f far)
  ]

  -- and so is what was there, which is back then
  pub put_back : (k : ℕ) (v w : Option X) (f : ℕ → Option X) → v ≡ f k → (q : ℕ) → put k v (put k w f) q ≡ f q
  put_back k v w f is q = elim (cases_eq q k) [
    | inl same ↦ ap (put k v (put k w f)) same ∙ put_here k v (put k w f) ∙ is ∙ ap f (sym same)
    | inr far ↦ put_there k q v (put k w f) far ∙ put_there k q w f far
  ]
