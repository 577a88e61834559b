use Rattle.std.proofs.Common.{rules, ◌≡◌, ◌≢◌, ◌∙◌, ◌<◌, ◌≤◌, slice_index_or, ap₂, length, take, ap, sym, subst, List, map}
use Rattle.std.specs.List.Sorted.{IsStrictlySortedBy}
use Rattle.group_op.specs.declared.lowest.Entry.{Entry}
use Rattle.std.specs.Prelude.{All}
use Rattle.std.specs.List.{HoldsAt}
use Rattle.std.specs.Vec.{with_items}
use Rattle.std.specs.declared.cmp.Ordering.TheVariants.{Greater}
use Rattle.group_op.specs.Stored.{joined}
use Rattle.partition_stack.proofs.Results.{on_ok}
use Rattle.std.proofs.lemmas.List.{with_items_is}
use Rattle.group_op.proofs.KeptRows.{all_joined, joined_long, all_put, by_bytes, less_there, put_joined, put_placed, sorted_beside}
use Rattle.group_op.proofs.lowest.keep.Goals as goal

pub place-at-requires : goal.place-at-requires
place-at-requires c =
    record {
      ordered = subst (λ (xs : List Entry). IsStrictlySortedBy by_bytes (map (λ e. e.key.items) xs)) (sym c.deref.ensures.value) (sorted_beside c.args.shape.now c.args.entries.now.items c.requires.each c.requires.ordered);
    }

pub returns-then-has_key-clause-each : goal.returns-then-has_key-clause-each
returns-then-has_key-clause-each c =
    let inside : c.place-at.result < length c.args.entries.now.items = search rules in
    let one : c.index_mut.result.now ≡ slice_index_or c.args.entries.now.items c.place-at.result c.index_mut.result.now = c.index_mut.ensures.value in
    let same : (slice_index_or c.args.entries.now.items c.place-at.result c.index_mut.result.now).key.items ≡ c.args.spare.now.key.items = search rules in
    let row_is : c.join_into.new.entry ≡ joined c.args.shape.now (slice_index_or c.args.entries.now.items c.place-at.result c.index_mut.result.now).row.items c.args.spare.now.row.items =
    c.join_into.ensures ∙ ap₂ (joined c.args.shape.now) (c.deref_mut.ensures.value ∙ ap (λ (e : Entry). e.row.items) one) c.deref-then-has_key.ensures.value in
    let long : length c.join_into.new.entry ≡ c.index_mut.result.now.row.len = ap length row_is ∙ joined_long c.law_row_back.ensures.law c.args.shape.now c.requires.shape c.args.entries.now.items c.args.room c.place-at.result c.args.spare.now (record { key = c.index_mut.result.now.key; row = with_items c.index_mut.result.now.row c.join_into.new.entry }) c.index_mut.result.now c.requires.each c.requires.few c.requires.row inside ∙ sym (ap (λ (e : Entry). e.row.len) one) in
    all_joined c.law_row_back.ensures.law c.args.shape.now c.requires.shape c.args.entries.now.items c.args.room c.place-at.result c.args.spare.now (record { key = c.index_mut.result.now.key; row = with_items c.index_mut.result.now.row c.join_into.new.entry }) c.index_mut.result.now c.requires.each c.requires.few c.requires.row inside same (ap (λ (e : Entry). e.key.items) one) (with_items_is c.index_mut.result.now.row c.join_into.new.entry long ∙ row_is)

pub returns-then-has_key-clause-taken : goal.returns-then-has_key-clause-taken
returns-then-has_key-clause-taken c =
    let inside : c.place-at.result < length c.args.entries.now.items = search rules in
    let one : c.index_mut.result.now ≡ slice_index_or c.args.entries.now.items c.place-at.result c.index_mut.result.now = c.index_mut.ensures.value in
    let same : (slice_index_or c.args.entries.now.items c.place-at.result c.index_mut.result.now).key.items ≡ c.args.spare.now.key.items = search rules in
    let below : All (λ e. by_bytes c.args.spare.now.key.items e.key.items ≡ Greater) (take c.place-at.result c.args.entries.now.items) = search rules in
    let row_is : c.join_into.new.entry ≡ joined c.args.shape.now (slice_index_or c.args.entries.now.items c.place-at.result c.index_mut.result.now).row.items c.args.spare.now.row.items =
    c.join_into.ensures ∙ ap₂ (joined c.args.shape.now) (c.deref_mut.ensures.value ∙ ap (λ (e : Entry). e.row.items) one) c.deref-then-has_key.ensures.value in
    let long : length c.join_into.new.entry ≡ c.index_mut.result.now.row.len = ap length row_is ∙ joined_long c.law_row_back.ensures.law c.args.shape.now c.requires.shape c.args.entries.now.items c.args.room c.place-at.result c.args.spare.now (record { key = c.index_mut.result.now.key; row = with_items c.index_mut.result.now.row c.join_into.new.entry }) c.index_mut.result.now c.requires.each c.requires.few c.requires.row inside ∙ sym (ap (λ (e : Entry). e.row.len) one) in
    put_joined c.law_row_back.ensures.law c.args.shape.now c.requires.shape c.args.entries.now.items c.args.room c.place-at.result c.args.spare.now (record { key = c.index_mut.result.now.key; row = with_items c.index_mut.result.now.row c.join_into.new.entry }) c.index_mut.result.now c.requires.each c.requires.few c.requires.row inside same (ap (λ (e : Entry). e.key.items) one) (with_items_is c.index_mut.result.now.row c.join_into.new.entry long ∙ row_is) below

pub returns-clause-each : goal.returns-clause-each
returns-clause-each c =
    let inside : c.place-at.result ≤ length c.args.entries.now.items = search rules in
    on_ok c.put_in.result (λ is. all_put c.args.shape.now c.args.entries.now.items c.args.room c.place-at.result c.args.spare.now c.requires.each c.requires.row inside c.put_in.new.entries.items is) c.put_in.ensures

pub returns-clause-taken : goal.returns-clause-taken
returns-clause-taken c =
    let inside : c.place-at.result ≤ length c.args.entries.now.items = search rules in
    let below : All (λ e. by_bytes c.args.spare.now.key.items e.key.items ≡ Greater) (take c.place-at.result c.args.entries.now.items) = search rules in
    let next : c.place-at.result < length c.args.entries.now.items → HoldsAt (λ e. by_bytes c.args.spare.now.key.items e.key.items ≢ Greater) c.args.entries.now.items c.place-at.result = search rules in
    let none : c.place-at.result < length c.args.entries.now.items → HoldsAt (λ e. e.key.items ≢ c.args.spare.now.key.items) c.args.entries.now.items c.place-at.result = search rules in
    on_ok c.put_in.result (λ is. put_placed c.args.shape.now c.args.entries.now.items c.args.room c.place-at.result c.args.spare.now c.requires.each c.requires.row inside c.put_in.new.entries.items is below (less_there c.args.entries.now.items c.place-at.result c.args.spare.now.key.items next none)) c.put_in.ensures
