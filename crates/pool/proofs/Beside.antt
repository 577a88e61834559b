-- What items beside a seat's rights leave as it was.
use Rattle.std.proofs.Common.{◌≡◌, ◌≢◌, ℕ, ◌+◌, ◌<◌, List, [], ◌∷◌, ◌++◌, cond, refl, sym, ap, ◌∙◌, arith, eq-eqb}
use Rattle.std.specs.FinMap.{empty}
use Rattle.std.proofs.lemmas.List.{append_assoc, append-nil}
use Rattle.pool_model.specs.declared.entry.Entry.{Entry}
use Rattle.pool_model.specs.LookingBack.{made_by}
use Rattle.pool_model.proofs.OwnEntries.{made_by_other}
use Rattle.turn_table.specs.Lists.{needed, same, times}
use Rattle.turn_table.specs.Knowledge.{GrewBeside}
use Rattle.session_calls.specs.Having.{AllBeside}
use Rattle.pool.specs.declared.item.Item.{Item}
use Rattle.pool.specs.declared.item.Item.TheVariants.{Seated, Made, Went, Stop}
use Rattle.pool.specs.Items.{door, history, needs_of, own_in}
use Rattle.pool.specs.Seats.{Quotas, quotas_in, with_item, with_items}
use Rattle.pool.proofs.Listed.{history_more}

pub quotas_more : (q : Quotas) (xs ys : List Item) → with_items q (xs ++ ys) ≡ with_items (with_items q xs) ys
quotas_more q [] ys = refl
quotas_more q (x ∷ xs) ys = quotas_more (with_item x q) xs ys

-- a sum that is nothing has nothing in it
first_none : (a b : ℕ) → a + b ≡ 0 → a ≡ 0
first_none a b is = omega (arith, is)

rest_none : (a b : ℕ) → a + b ≡ 0 → b ≡ 0
rest_none a b is = omega (arith, is)

-- an item that needs no door lets no session come or go
outside_door : (i : Item) (q : Quotas) → times door (needs_of i) ≡ 0 → with_item i q ≡ q
outside_door (Seated e) q none = let never : 1 ≡ 0 = first_none 1 (same door e.maker + 0) none in absurd (omega (arith, never))
outside_door (Made e) q none = refl
outside_door (Went m count) q none = refl
outside_door Stop q none = refl

quotas_stay : (behind : List Item) (q : Quotas) → needed needs_of door behind ≡ 0 → with_items q behind ≡ q
quotas_stay [] q none = refl
quotas_stay (i ∷ behind) q none =
    ap (λ (p : Quotas). with_items p behind) (outside_door i q (first_none (times door (needs_of i)) (needed needs_of door behind) none))
    ∙ quotas_stay behind q (rest_none (times door (needs_of i)) (needed needs_of door behind) none)

-- an item that doesn't need this number has another maker
same_one : (m k : ℕ) → k ≡ m → same m k ≡ 1
same_one m k is = ap (λ b. cond b 1 0) (eq-eqb m k (sym is))

not_own : (m k rest : ℕ) → same m k + rest ≡ 0 → k ≢ m
not_own m k rest none is =
    let zero : same m k ≡ 0 = first_none (same m k) rest none in
    let one : same m k ≡ 1 = same_one m k is in
    omega (arith, zero, one)

module _ (m : ℕ) where
  -- others made all that needs no such right
  pub others_made : (behind : List Item) → needed needs_of m behind ≡ 0 → AllBeside m (history behind)
  others_made [] none = tt
  others_made (Seated e ∷ behind) none = (
    not_own m e.maker 0 (rest_none (same m door) (same m e.maker + 0) (first_none (times m (needs_of (Seated e))) (needed needs_of m behind) none)),
    others_made behind (rest_none (times m (needs_of (Seated e))) (needed needs_of m behind) none),
  )
  others_made (Made e ∷ behind) none = (
    not_own m e.maker 0 (first_none (times m (needs_of (Made e))) (needed needs_of m behind) none),
    others_made behind (rest_none (times m (needs_of (Made e))) (needed needs_of m behind) none),
  )
  others_made (Went k count ∷ behind) none = others_made behind (rest_none (times m (needs_of (Went k count))) (needed needs_of m behind) none)
  others_made (Stop ∷ behind) none = others_made behind (rest_none (times m (needs_of Stop)) (needed needs_of m behind) none)

  own_stay : (h es : List Entry) → AllBeside m es → made_by (h ++ es) m ≡ made_by h m
  own_stay h [] all = ap (λ (g : List Entry). made_by g m) (append-nil h)
  own_stay h (e ∷ es) all =
      ap (λ (g : List Entry). made_by g m) (sym (append_assoc h (e ∷ []) es)) ∙ own_stay (h ++ e ∷ []) es all.1 ∙ made_by_other h e m all.0

module _ (rights : List ℕ) (before now : List Item) (grew : GrewBeside needs_of rights before now) where
  pub quotas_beside : 0 < times door rights → quotas_in now ≡ quotas_in before
  quotas_beside has =
      ap quotas_in grew.grew ∙ quotas_more empty before grew.behind ∙ quotas_stay grew.behind (quotas_in before) (grew.beside door has)

  pub own_beside : (m : ℕ) → 0 < times m rights → own_in m now ≡ own_in m before
  own_beside m has =
      ap (own_in m) grew.grew ∙ ap (λ (h : List Entry). made_by h m) (history_more before grew.behind)
      ∙ own_stay m (history before) (history grew.behind) (others_made m grew.behind (grew.beside m has))
