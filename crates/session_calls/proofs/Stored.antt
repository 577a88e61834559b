-- What writes of a history stored, before and after its last entry.
use Rattle.std.proofs.Common.{◌≡◌, ℕ, List, [], ◌∷◌, ◌++◌, ap, ◌∙◌}
use Rattle.pool_model.specs.declared.event.Event.TheVariants.{StartWrite}
use Rattle.pool_model.specs.declared.entry.Entry.{Entry}
use Rattle.pool_model.specs.State.{Opening}
use Rattle.pool_model.specs.StoredBlocks.{IsStored}

module _ {X : Type 0} where
  heads : (x y : X) (xs ys : List X) → x ∷ xs ≡ y ∷ ys → x ≡ y
  heads x y xs ys same = cc

  tails : (x y : X) (xs ys : List X) → x ∷ xs ≡ y ∷ ys → xs ≡ ys
  tails x y xs ys same = cc

  not_empty : (before : List X) (y : X) (later : List X) → [] ≡ before ++ y ∷ later → ⊥
  not_empty [] y later same = let never : [] ≡ y ∷ later = same in cc
  not_empty (x ∷ before) y later same = let never : [] ≡ x ∷ (before ++ y ∷ later) = same in cc

  -- so this stands in the list, behind these
  record StandsBehind (before : List X) (y : X) (xs : List X) : Type 0 where
    later : List X
    is : xs ≡ before ++ y ∷ later

  -- what stands in a list and isn't its last stands before that
  not_last : (xs before : List X) (last y : X) (later : List X) → (last ≡ y → ⊥) → xs ++ last ∷ [] ≡ before ++ y ∷ later → StandsBehind before y xs
  not_last [] [] last y later other same = absurd (other (heads last y [] later same))
  not_last [] (b ∷ before) last y later other same = absurd (not_empty before y later (tails last b [] (before ++ y ∷ later) same))
  not_last (x ∷ xs) [] last y later other same = record { later = xs; is = ap (λ (z : X). z ∷ xs) (heads x y (xs ++ last ∷ []) later same) }
  not_last (x ∷ xs) (b ∷ before) last y later other same =
      let rest : StandsBehind before y xs = not_last xs before last y later other (tails x b (xs ++ last ∷ []) (before ++ y ∷ later) same) in
      record { later = rest.later; is = ap (λ (z : X). z ∷ xs) (heads x b (xs ++ last ∷ []) (before ++ y ∷ later) same) ∙ ap (λ (zs : List X). b ∷ zs) rest.is }

-- what was stored was stored before an entry by which no write begins
pub stored_before : (o : Opening) (h : List Entry) (e : Entry) → ((q : ℕ) → e.event ≡ StartWrite q → ⊥) → (bytes : List ℕ) → IsStored o (h ++ e ∷ []) bytes → IsStored o h bytes
stored_before o h e starts bytes is =
    let it = is.stored in
    let start : Entry = record { maker = it.maker; event = StartWrite is.mark.name } in
    let front : StandsBehind it.before start h = not_last h it.before e start it.later (λ same. starts is.mark.name (ap (λ (d : Entry). d.event) same)) it.begins in
    record {
      mark = is.mark;
      block = is.block;
      stored = record { before = it.before; maker = it.maker; later = front.later; begins = front.is; version = it.version; made = it.made; page = it.page; inside = it.inside; is_mark = it.is_mark; bytes = it.bytes };
      is = is.is;
    }
