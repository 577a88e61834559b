use Rattle.std.proofs.Common.{◌≡◌, ◌<◌, ◌∙◌, ◌+◌, ℕ, List, [], Some, length, drop, get_or, ap₂, sym, subst}
use Rattle.std.specs.Prelude.{filter_map, slice_get}
use Rattle.std.specs.List.{cons_option}
use Rattle.std.proofs.lemmas.List.{take_rest}
use Rattle.row_codec.specs.declared.values.Kind.{Kind}
use Rattle.group_op.specs.KeyParts.{hashed, parts_at}
use Rattle.group_op.specs.Stored.{key_kinds}
use Rattle.group_op.proofs.KeyHashing.{Hashes, hashes_more}
use Rattle.group_op.proofs.hashing.hash_fields.Goals as goal

pub loop-column-preserved : goal.loop-column-preserved
loop-column-preserved c =
    let shape = c.args.shape.now in
    let i : ℕ = c.loop-column.column-index in
    let hash : ℕ = c.loop-column.hash in
    let rest : List ℕ = c.loop-column.rest.now in
    let keys : c.as_slice-column-items.result.now ≡ shape.keys = c.as_slice-column-items.ensures in
    let inside : i < length shape.keys = subst (λ (cs : List ℕ). i < length cs) keys c.loop-column-test.true in
    let found : Some (c.in_ok-len.now, drop c.in_ok-len.len rest) ≡ hashed hash (parts_at (cons_option (slice_get shape.kinds (get_or shape.keys i 0)) []) rest) =
    c.in_ok-len.ensures.part ∙ ap₂ (λ (ks : List Kind) (cs : List ℕ). hashed hash (parts_at (cons_option (slice_get ks (get_or cs i 0)) []) rest)) c.as_slice.ensures keys in
    subst (λ (r : List ℕ). Hashes (parts_at (key_kinds shape) c.args.body.now) c.in_ok-len.now (parts_at (filter_map (slice_get shape.kinds) (drop (i + 1) shape.keys)) r)) (sym (take_rest rest c.in_ok-len.len))
    (hashes_more shape.kinds shape.keys i inside (parts_at (key_kinds shape) c.args.body.now) hash rest c.loop-column.invariant c.in_ok-len.now (drop c.in_ok-len.len rest) found)
