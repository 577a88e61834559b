-- A table is filled with rows of a stream, one after the other.
use Rattle.std.proofs.Common.{◌≡◌, ◌∙◌, ℕ, ◌+◌, ◌<◌, ◌%◌, ◌^◌, List, [], ◌∷◌, ◌++◌, length, take, refl, ap, sym, subst, arith, append-nil, length-append}
use Rattle.std.specs.Prelude.{flat_map}
use Rattle.std.specs.Int.{w32, to_be_bytes}
use Rattle.row_codec.specs.declared.values.Kind.{Kind}
use Rattle.row_codec.specs.declared.values.Value.{Value}
use Rattle.row_codec.specs.Order.{hash_of}
use Rattle.row_codec.specs.RowBytes.{field_bytes, framed, row_bytes}
use Rattle.row_codec.specs.RowReading.{number_in}
use Rattle.row_reading.specs.Reading.{IsRowOf, values_at}
use Rattle.bucket_table.specs.Spreading.{spread}
use Rattle.bucket_table.specs.Tables.{IsFramed, Node, Table, new_node, with_nodes}
use Rattle.bucket_table.proofs.Spelling.{link_back}
use Rattle.tuple_stream.specs.Places.{IsWithin, Place, first}
use Rattle.tuple_stream.specs.Reading.{ReadsRow}
use Rattle.tuple_stream.specs.Steps.{Reads, Scene, Shaped}
use Rattle.tuple_stream.specs.Streamed.{Streamed}
use Rattle.tuple_stream.proofs.ReadAll.{read_first}
use Rattle.tuple_stream.proofs.ReadRow.{reads_trans}
use Rattle.join_op.specs.Chunks.{ReadsMore}
use Rattle.join_op.specs.Holding.{AreStored, stored}
use Rattle.join_op.specs.Stored.{Side, key_at}
use Rattle.join_op.proofs.ChunkRounds.{more_row}

-- a row counts its own bytes
spelled_framed : (vs : List Value) → length (flat_map field_bytes vs) < 2 ^ 32 → IsFramed (row_bytes vs)
unfolding row_bytes
spelled_framed vs fits =
    let body : List ℕ = flat_map field_bytes vs in
    let long : length (framed body) ≡ 4 + length body = length-append (to_be_bytes w32 (length body)) body in
    let count : number_in (take 4 (framed body)) ≡ length body = link_back (length body) fits in
    omega (arith, long, count)

pub row_framed : (kinds : List Kind) (bytes : List ℕ) → IsRowOf kinds bytes → IsFramed bytes
row_framed kinds bytes is = subst IsFramed is.spelled (spelled_framed (values_at kinds bytes) is.is_row.fits)

-- a row more
pub stored_more : (side : Side) (table now : Table) (hash : ℕ) (row : List ℕ) → hash ≡ spread (hash_of (key_at side row)) → IsRowOf side.kinds row → AreStored side table.heads table.nodes
    → now ≡ with_nodes (new_node (hash % table.heads) row table.nodes ∷ table.nodes) table → AreStored side now.heads now.nodes
stored_more side table now hash row is formed before same =
    subst (λ (t : Table). AreStored side t.heads t.nodes) (sym same)
    (record { place = refl; chain = ap (λ (n : ℕ). n % table.heads) is; row = formed }, before)

pub stored_count : (nodes : List Node) → length (stored nodes) ≡ length nodes
stored_count [] = refl
stored_count (n ∷ older) = let long : length (stored older ++ n.row ∷ []) ≡ length (stored older) + 1 = length-append (stored older) (n.row ∷ []) in let rest = stored_count older in omega (arith, long, rest)

-- rows were read into a table from a place on, and the place is behind them
pub record IsFilling (t : ℕ) (side : Side) (old table : Table) (start place : Place) (a b : Scene) : Type 0 where
  pub each : AreStored side table.heads table.nodes
  pub same_table : table ≡ with_nodes table.nodes old
  pub reads : ReadsMore (stored table.nodes) start place a b
  pub went : Reads t a b
  pub same : b.stream ≡ record a.stream { pinned = b.stream.pinned }

pub filling_none : (t : ℕ) (side : Side) (old table : Table) (place : Place) (a : Scene) → table ≡ with_nodes [] old → Shaped t a → IsWithin place a.stream → IsFilling t side old table place place a a
filling_none t side old table place a none is within =
    subst (λ (now : Table). IsFilling t side old now place place a a) (sym none)
    (record {
      each = tt;
      same_table = refl;
      reads = record { moved = omega arith; within = within; pins = λ some closed. absurd (omega (arith, some)); rows_are = λ rows tells shows stands. (sym (append-nil (take place.row rows)), stands) };
      went = (read_first t [] first a refl is).went;
      same = refl;
    })

pub filling_more : (t : ℕ) (side : Side) (old table now : Table) (start place behind : Place) (row : List ℕ) (a b c : Scene) → IsFilling t side old table start place a b → Reads t b c → c.stream ≡ record b.stream { pinned = c.stream.pinned } → ReadsRow place behind row b c
    → AreStored side now.heads now.nodes → now ≡ with_nodes now.nodes table → stored now.nodes ≡ stored table.nodes ++ row ∷ [] → IsFilling t side old now start behind a c
filling_more t side old table now start place behind row a b c is went same reads each still rows =
    record {
      each = each;
      same_table = still ∙ ap (with_nodes now.nodes) is.same_table;
      reads = subst (λ (rs : List (List ℕ)). ReadsMore rs start behind a c) (sym rows) (more_row (stored table.nodes) start place t a b c is.reads is.went went behind row reads);
      went = reads_trans t a b c is.went went;
      same = same ∙ ap (λ (s : Streamed). record s { pinned = c.stream.pinned }) is.same;
    }
