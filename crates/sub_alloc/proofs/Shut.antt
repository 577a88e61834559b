-- Where no piece is live, no buffer is open: free pieces that are joined as far as they can be never make up a buffer.
use Rattle.std.proofs.Common.{◌≡◌, ◌≢◌, ℕ, zero, suc, ◌+◌, ◌-◌, ◌*◌, ◌<◌, ◌≤◌, ◌^◌, Option, None, Some, IsSome, refl, ap, sym, ◌∙◌, inl, inr, arith}
use Rattle.std.proofs.lemmas.Nat.{pow_pos}
use Rattle.std.proofs.lemmas.Bool.{cases_eq, cases_lt}
use Rattle.store_api.specs.Conditions.{IsIdle}
use Rattle.store_api.specs.Holdings.{Holdings}
use Rattle.store_api.specs.Tokens.{LoanToken}
use Rattle.sub_alloc.specs.Pieces.{Division, HasNoLive, IsOpen, buffer, either, free_at, live_at, places, size_at}
use Rattle.sub_alloc.specs.Tiling.{IsWhole}
use Rattle.sub_alloc.specs.Lending.{IsAllocOf}
use Rattle.sub_alloc.proofs.Tiles.{none_some, power_same, some_same, step_below, step_to, twice}
use Rattle.sub_alloc.proofs.Outs.{IsLower, IsUpper, steps, which_half}

-- multiples of one number that are near each other are equal
near_same : (a b w : ℕ) → 0 < w → a * w ≤ b * w → b * w < a * w + w → a * w ≡ b * w
near_same a b w some low high =
    elim (cases_lt (a * w) (b * w)) [
      | inl l ↦ let m = step_below a b w l in absurd (omega (arith, m, high))
      | inr l ↦ omega (arith, l, low)
    ]

module _ (d : Division) (w : IsWhole d) (idle : HasNoLive d) where
  -- each piece is free
  pub is_free : (n c : ℕ) → size_at d n ≡ Some c → free_at d n ≡ Some c
  is_free n c size = first (free_at d n) (live_at d n) c (idle n) size
    where
      first : (x y : Option ℕ) (c : ℕ) → y ≡ None → either x y ≡ Some c → x ≡ Some c
      first None y c none some = none_some y c none some
      first (Some e) y c none some = some

  pub as_size : (n c : ℕ) → free_at d n ≡ Some c → size_at d n ≡ Some c
  as_size n c free = ap (λ (x : Option ℕ). either x (live_at d n)) free

  -- no free piece is of class c, where none is of a lower one: neither a lower half
  module _ (c n : ℕ) (lower : (e m : ℕ) → e < c → free_at d m ≢ Some e) (there : free_at d n ≡ Some c) (size : size_at d n ≡ Some c) (two : 2 ^ suc c ≡ 2 * 2 ^ c) (one : 0 < 2 ^ c) (u s : ℕ) (is_open : IsOpen u d) (from : u * places d ≤ n) (ends : n + 2 ^ c ≤ u * places d + places d) (start : u * places d ≡ u * s * 2 ^ suc c) (end : u * places d + places d ≡ (u * s + s) * 2 ^ suc c) where
    no_lower : IsLower c n → ⊥
    no_lower low =
        let past : n + 2 ^ suc c ≤ u * places d + places d = step_to low.at (u * s + s) (2 ^ suc c) n (u * places d + places d) low.from end (omega (arith, ends, one)) in
        let g = w.tiled.tiles.cover u (n + 2 ^ c - u * places d) is_open (omega (arith, from, past, two, one)) in
        let q_low : g.1 ≤ n + 2 ^ c = omega (arith, g.3, from) in
        let q_high : n + 2 ^ c < g.1 + 2 ^ g.0 = omega (arith, g.4, from) in
        let q_at = w.tiled.tiles.aligned g.0 g.1 g.2 in
        elim (cases_lt g.0 c) [
          | inl l ↦ lower g.0 g.1 l (is_free g.1 g.0 g.2)
          | inr l ↦ elim (cases_eq g.0 c) [
            | inl same ↦
                let k = power_same g.0 c same in
                let q_is : g.1 ≡ q_at.0 * 2 ^ c = q_at.1 ∙ ap (λ (m : ℕ). q_at.0 * m) k in
                let m_is : n + 2 ^ c ≡ (2 * low.at + 1) * 2 ^ c = omega (arith, low.from, ap (λ (m : ℕ). low.at * m) two) in
                let e = near_same q_at.0 (2 * low.at + 1) (2 ^ c) one (omega (arith, q_is, m_is, q_low)) (omega (arith, q_is, m_is, q_high, k)) in
                let here : g.1 ≡ low.at * 2 ^ suc c + 2 ^ c = omega (arith, q_is, m_is, e, low.from) in
                w.tiled.merged.halves c low.at (sym (ap (free_at d) low.from) ∙ there) (sym (ap (free_at d) here) ∙ is_free g.1 g.0 g.2 ∙ ap Some same)
            | inr more ↦
                let up = steps (suc c) (g.0 - suc c) in
                let wide : 2 ^ g.0 ≡ up.0 * 2 ^ suc c = ap (λ (k : ℕ). 2 ^ k) (let e : g.0 ≡ suc c + (g.0 - suc c) = omega (arith, l, more) in e) ∙ up.1 in
                let q_is : g.1 ≡ q_at.0 * up.0 * 2 ^ suc c = q_at.1 ∙ ap (λ (m : ℕ). q_at.0 * m) wide ∙ (let e : q_at.0 * (up.0 * 2 ^ suc c) ≡ q_at.0 * up.0 * 2 ^ suc c = omega arith in e) in
                elim (cases_lt n g.1) [
                  | inl b ↦
                      let far = step_to low.at (q_at.0 * up.0) (2 ^ suc c) n g.1 low.from q_is b in
                      omega (arith, far, two, one, q_low)
                  | inr b ↦ elim (cases_eq g.1 n) [
                    | inl same ↦ more (some_same (sym g.2 ∙ ap (size_at d) same ∙ size))
                    | inr other ↦
                        let k = w.tiled.tiles.apart g.0 c g.1 n g.2 size (omega (arith, b, other)) in
                        omega (arith, k, q_high)
                  ]
                ]
          ]
        ]

    -- nor an upper one
    no_upper : IsUpper c n → ⊥
    no_upper high =
        let begins : u * places d ≤ high.low =
        elim (cases_lt high.low (u * places d)) [
          | inl b ↦
              let far = step_to high.at (u * s) (2 ^ suc c) high.low (u * places d) high.from start b in
              absurd (omega (arith, far, two, one, high.is, from))
          | inr b ↦ b
        ]
        in
        let g = w.tiled.tiles.cover u (high.low - u * places d) is_open (omega (arith, begins, high.is, ends, one)) in
        let q_low : g.1 ≤ high.low = omega (arith, g.3, begins) in
        let q_high : high.low < g.1 + 2 ^ g.0 = omega (arith, g.4, begins) in
        let q_at = w.tiled.tiles.aligned g.0 g.1 g.2 in
        elim (cases_lt g.0 c) [
          | inl l ↦ lower g.0 g.1 l (is_free g.1 g.0 g.2)
          | inr l ↦ elim (cases_eq g.0 c) [
            | inl same ↦
                let k = power_same g.0 c same in
                let q_is : g.1 ≡ q_at.0 * 2 ^ c = q_at.1 ∙ ap (λ (m : ℕ). q_at.0 * m) k in
                let m_is : high.low ≡ 2 * high.at * 2 ^ c = omega (arith, high.from, ap (λ (m : ℕ). high.at * m) two) in
                let e = near_same q_at.0 (2 * high.at) (2 ^ c) one (omega (arith, q_is, m_is, q_low)) (omega (arith, q_is, m_is, q_high, k)) in
                let here : g.1 ≡ high.at * 2 ^ suc c = omega (arith, q_is, m_is, e, high.from) in
                let there_is : n ≡ high.at * 2 ^ suc c + 2 ^ c = omega (arith, high.is, high.from) in
                w.tiled.merged.halves c high.at (sym (ap (free_at d) here) ∙ is_free g.1 g.0 g.2 ∙ ap Some same) (sym (ap (free_at d) there_is) ∙ there)
            | inr more ↦
                let up = steps (suc c) (g.0 - suc c) in
                let wide : 2 ^ g.0 ≡ up.0 * 2 ^ suc c = ap (λ (k : ℕ). 2 ^ k) (let e : g.0 ≡ suc c + (g.0 - suc c) = omega (arith, l, more) in e) ∙ up.1 in
                let q_end : g.1 + 2 ^ g.0 ≡ (q_at.0 * up.0 + up.0) * 2 ^ suc c =
                (let a = q_at.1 ∙ ap (λ (m : ℕ). q_at.0 * m) wide in let e : q_at.0 * (up.0 * 2 ^ suc c) + up.0 * 2 ^ suc c ≡ (q_at.0 * up.0 + up.0) * 2 ^ suc c = omega arith in omega (arith, a, wide, e)) in
                let far = step_to high.at (q_at.0 * up.0 + up.0) (2 ^ suc c) high.low (g.1 + 2 ^ g.0) high.from q_end q_high in
                let k = w.tiled.tiles.apart g.0 c g.1 n g.2 size (omega (arith, q_low, high.is, one)) in
                omega (arith, k, far, two, one, high.is)
          ]
        ]

  none_of : (c : ℕ) → ((e n : ℕ) → e < c → free_at d n ≢ Some e) → (n : ℕ) → free_at d n ≢ Some c
  none_of c lower n there =
      let size = as_size n c there in
      let short = w.tiled.tiles.short c n size in
      let v = w.tiled.tiles.within c n size in
      let r = w.tiled.tiles.aligned c n size in
      let two = twice c in
      let one = pow_pos c in
      elim (cases_lt (suc c) d.classes) [
        | inr top ↦ w.tiled.merged.whole n (there ∙ ap Some (let e : c ≡ d.classes - 1 = omega (arith, short, top) in e))
        | inl room ↦
            let s = steps (suc c) (d.classes - 1 - suc c) in
            let buf : places d ≡ s.0 * 2 ^ suc c = ap (λ (k : ℕ). 2 ^ k) (let e : d.classes - 1 ≡ suc c + (d.classes - 1 - suc c) = omega (arith, room) in e) ∙ s.1 in
            let start : v.0 * places d ≡ v.0 * s.0 * 2 ^ suc c = ap (λ (k : ℕ). v.0 * k) buf ∙ (let e : v.0 * (s.0 * 2 ^ suc c) ≡ v.0 * s.0 * 2 ^ suc c = omega arith in e) in
            let end : v.0 * places d + places d ≡ (v.0 * s.0 + s.0) * 2 ^ suc c = (let e : v.0 * s.0 * 2 ^ suc c + s.0 * 2 ^ suc c ≡ (v.0 * s.0 + s.0) * 2 ^ suc c = omega arith in omega (arith, start, buf, e)) in
            elim (which_half c n r.0 r.1) [
              | inl low ↦ no_lower c n lower there size two one v.0 s.0 v.1 v.2 v.3 start end low
              | inr high ↦ no_upper c n lower there size two one v.0 s.0 v.1 v.2 v.3 start end high
            ]
      ]

  none_below : (c e n : ℕ) → e < c → free_at d n ≢ Some e
  none_below zero e n l there = omega (arith, l)
  none_below (suc c) e n l there =
      elim (cases_eq e c) [
        | inl same ↦ none_of c (none_below c) n (there ∙ ap Some same)
        | inr other ↦ none_below c e n (omega (arith, l, other)) there
      ]

  pub none_open : (u : ℕ) → buffer u d ≡ None
  none_open u =
      shut (buffer u d) (λ opened.
      let g = w.tiled.tiles.cover u 0 opened (pow_pos (d.classes - 1)) in
      none_below (suc g.0) g.0 g.1 (omega arith) (is_free g.1 g.0 g.2))
    where
      shut : (o : Option LoanToken) → (IsSome o → ⊥) → o ≡ None
      shut None not = refl
      shut (Some loan) not = absurd (not refl)

  pub then_idle : (t : ℕ) (h : Holdings) → IsAllocOf t h d → IsIdle t h
  then_idle t h is = record {
    pages = is.pages;
    loans = λ q lent stands whose.
        let o = is.only q lent stands whose in
        no_loan_there (buffer o.0 d) o.1 (none_open o.0) o.2;
  }
    where
      no_loan_there : (o : Option LoanToken) (x : LoanToken) → o ≡ None → o ≡ Some x → ⊥
      no_loan_there o x none some = cc
