-- The entry of a key is found by the bytes before its numbers.
use Rattle.std.proofs.Common.{◌≡◌, ◌≢◌, ◌∙◌, ℕ, ◌%◌, Bool, true, false, cond, zero, suc, List, [], ◌∷◌, length, map, take, filter, Option, Some, None, refl, ap, sym, subst, arith, eq-eqb}
use Rattle.std.specs.Prelude.{IfNone, IfSome, slice_get}
use Rattle.std.proofs.lemmas.Bool.{false≢true}
use Rattle.std.proofs.lemmas.List.{length-take-le}
use Rattle.std.proofs.lemmas.Option.{none-some, same_Some}
use Rattle.row_codec.specs.Order.{hash_of}
use Rattle.row_codec.specs.RowLaws.{RowBack}
use Rattle.store_api.specs.declared.shapes.Shape.{Shape}
use Rattle.store_api.specs.Shapes.{IsShape}
use Rattle.bucket_table.specs.Spreading.{spread}
use Rattle.bucket_table.specs.Looking.{newest_showing, shows_on}
use Rattle.bucket_table.specs.Tables.{HasNode, Node, Table, part_of, row_of}
use Rattle.group_rows.proofs.Keys.{same_true}
use Rattle.tuple_stream.proofs.Chosen.{all_placed, at_place}
use Rattle.group_op.specs.Held.{AreEntries, IsEntry}
use Rattle.group_op.specs.Putting.{Lacks}
use Rattle.group_op.specs.Stored.{IsPartialRow, head_len, key_at}
use Rattle.group_op.proofs.Heads.{head_tells, key_tells_head}
use Rattle.group_op.proofs.Rewriting.{NodeAt, node_at}

-- what holds of each node holds of the one that was found
pub entry_of : (shape : Shape) (len node : ℕ) (table : Table) → AreEntries shape len table → HasNode node table.nodes → (at : NodeAt node table.nodes) × IsEntry shape len table.heads at.node
entry_of shape len node table entries has =
    let at = node_at node table.nodes has in
    (at, at_place (IsEntry shape len table.heads) table.nodes at.index at.node entries.each at.there)

pub entry_row : (shape : Shape) (len node : ℕ) (table : Table) → AreEntries shape len table → HasNode node table.nodes → IsPartialRow shape (row_of node table.nodes)
entry_row shape len node table entries has =
    let entry = entry_of shape len node table entries has in
    subst (IsPartialRow shape) (sym entry.0.row) entry.1.row

head_taken : (shape : Shape) (row bytes : List ℕ) → bytes ≡ take (head_len shape row) row → length bytes ≡ head_len shape row
head_taken shape row bytes is = ap length is ∙ length-take-le (head_len shape row) row (omega arith)

pub found_key : RowBack → (shape : Shape) (len node : ℕ) (table : Table) (row bytes : List ℕ) → IsShape shape → AreEntries shape len table → IsPartialRow shape row → HasNode node table.nodes → bytes ≡ take (head_len shape row) row → part_of 0 (length bytes) (row_of node table.nodes) ≡ bytes → key_at shape (row_of node table.nodes) ≡ key_at shape row
found_key back shape len node table row bytes is entries p has bytes_is shown =
    let long : length bytes ≡ head_len shape row = head_taken shape row bytes bytes_is in
    sym (head_tells back shape row (row_of node table.nodes) is p (entry_row shape len node table entries has)
    (ap (λ (n : ℕ). take n (row_of node table.nodes)) (sym long) ∙ shown ∙ bytes_is))

none_first : {X : Type 0} (xs : List X) → slice_get xs 0 ≡ None → xs ≡ []
none_first [] is = refl
none_first (x ∷ xs) is = absurd (none-some x (sym is))

map_none : (f : Node → ℕ) (ns : List Node) → map f ns ≡ [] → ns ≡ []
map_none f [] is = refl
map_none f (n ∷ ns) is = absurd (let long = ap length is in omega (arith, long))

filter_front : (b : Bool) (m : Node) (rest : List Node) → cond b (m ∷ rest) rest ≡ [] → (b ≡ false) × (rest ≡ [])
filter_front true m rest is = absurd (let long = ap length is in omega (arith, long))
filter_front false m rest is = (refl, is)

filter_none : (test : Node → Bool) (ns : List Node) (i : ℕ) (n : Node) → filter test ns ≡ [] → slice_get ns i ≡ Some n → test n ≡ false
filter_none test [] i n none at = absurd (none-some n at)
filter_none test (m ∷ ns) zero n none at = ap test (sym (same_Some m n at)) ∙ (filter_front (test m) m (filter test ns) none).0
filter_none test (m ∷ ns) (suc i) n none at = filter_none test ns i n (filter_front (test m) m (filter test ns) none).1 at

-- where none was found, no entry has the key
pub found_none : RowBack → (shape : Shape) (len hash : ℕ) (table : Table) (row bytes : List ℕ) → IsShape shape → AreEntries shape len table → IsPartialRow shape row → hash ≡ hash_of (key_at shape row) → bytes ≡ take (head_len shape row) row → newest_showing (spread hash % table.heads) 0 bytes table.nodes ≡ None → Lacks shape (key_at shape row) table
found_none back shape len hash table row bytes is entries p hash_is bytes_is none =
    let long : length bytes ≡ head_len shape row = head_taken shape row bytes bytes_is in
    let nothing : filter (shows_on (spread hash % table.heads) 0 bytes) table.nodes ≡ [] = map_none (λ n. n.place) (filter (shows_on (spread hash % table.heads) 0 bytes) table.nodes) (none_first (map (λ n. n.place) (filter (shows_on (spread hash % table.heads) 0 bytes) table.nodes)) none) in
    all_placed (λ n. key_at shape n.row ≢ key_at shape row) table.nodes (λ i n at same.
    let entry = at_place (IsEntry shape len table.heads) table.nodes i n entries.each at in
    let chain : n.chain ≡ spread hash % table.heads = entry.chain ∙ ap (λ (key : List ℕ). spread (hash_of key) % table.heads) same ∙ ap (λ (h : ℕ). spread h % table.heads) (sym hash_is) in
    let shown : bytes ≡ part_of 0 (length bytes) n.row = bytes_is ∙ sym (key_tells_head back shape row n.row is p entry.row (sym same)) ∙ ap (λ (k : ℕ). take k n.row) (sym long) in
    let yes_shown : shows_on (spread hash % table.heads) 0 bytes n ≡ true = rw (eq-eqb n.chain (spread hash % table.heads) chain) (same_true bytes (part_of 0 (length bytes) n.row) shown) in
    false≢true (sym (filter_none (shows_on (spread hash % table.heads) 0 bytes) table.nodes i n nothing at) ∙ yes_shown))

pub if_some : {P Q R : ℕ → Type 0} (o : Option ℕ) → IfSome o P → IfSome o Q → ((x : ℕ) → P x → Q x → R x) → IfSome o R
if_some None p q so = tt
if_some (Some x) p q so = so x p q

pub if_none : {R : Type 0} (o : Option ℕ) → (o ≡ None → R) → IfNone o R
if_none None so = so refl
if_none (Some x) so = tt
