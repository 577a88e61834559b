-- What a table that grows or is widened gets.
use Rattle.std.proofs.Common.{◌≡◌, ◌≢◌, ◌∙◌, ℕ, ◌+◌, ◌*◌, ◌%◌, List, [], ◌∷◌, ◌++◌, drop, map, Result, Ok, Err, OnErr, refl, ap, sym, subst, arith, append_assoc}
use Rattle.std.specs.Prelude.{All}
use Rattle.std.proofs.lemmas.List.Elements.{All-append, All-cons, All-head, All-nil, All-tail}
use Rattle.reservation_tree.specs.declared.errors.PoolErr.{PoolErr}
use Rattle.row_codec.specs.Order.{hash_of}
use Rattle.row_codec.specs.RowLaws.{RowBack}
use Rattle.store_api.specs.Holdings.{Holdings}
use Rattle.store_api.specs.declared.shapes.Shape.{Shape}
use Rattle.bucket_table.specs.Spreading.{spread}
use Rattle.bucket_table.specs.Lending.{Grew, IsApart, Lends, bytes_of, loans_of}
use Rattle.bucket_table.specs.Tables.{Node, Table, used_by}
use Rattle.bucket_table.specs.Widening.{Widened, rechained}
use Rattle.bucket_table.proofs.Lent.{bytes-append}
use Rattle.group_op.specs.Held.{AreEntries, IsEntry, StandBehind, rows_of}
use Rattle.group_op.specs.KeyParts.{hash_at, key_in, parts_at}
use Rattle.group_op.specs.Stored.{IsPartialRow, key_at, key_kinds}
use Rattle.group_op.proofs.Growth.{Got, apart_behind, apart_front}
use Rattle.group_op.proofs.KeyWalking.{found_of}

pub so_err : (P Q : Type 0) (result : Result Unit PoolErr) → (P → Q) → OnErr result P → OnErr result Q
so_err P Q (Ok done) so p = tt
so_err P Q (Err e) so p = so p

-- a page of nodes
pub grew_got : (t more : ℕ) (shape : Shape) (len : ℕ) (table now : Table) (old new : Holdings) → table.client ≡ t → table.page_blocks * table.block_len ≡ more → Grew table now old new → Got t more shape len table now old new
grew_got t more shape len table now old new client bytes_are grew =
    let loans_now : loans_of now ≡ loans_of table ++ grew.loan ∷ [] = ap loans_of grew.table ∙ sym (append_assoc table.head_loans table.node_loans (grew.loan ∷ [])) in
    let bytes : bytes_of (grew.loan ∷ []) ≡ more = (let one = grew.bytes in omega (arith, one, bytes_are)) in
    record {
      loans = grew.loan ∷ [];
      lends = subst (λ (k : ℕ). Lends k (grew.loan ∷ []) old new) client grew.lends;
      gets = record {
        client = ap (λ (x : Table). x.client) grew.table;
        blocks = ap (λ (x : Table). x.page_blocks) grew.table;
        lent_is = ap bytes_of loans_now ∙ bytes-append (loans_of table) (grew.loan ∷ []) ∙ ap (λ (n : ℕ). bytes_of (loans_of table) + n) bytes;
        bytes = bytes;
        apart = λ q apart.
            let both : IsApart q (loans_of table ++ grew.loan ∷ []) = subst (IsApart q) loans_now apart in
            (apart_behind q (loans_of table) (grew.loan ∷ []) both, apart_front q (loans_of table) (grew.loan ∷ []) both);
      };
      rows = ap rows_of grew.table;
      entries = λ entries.
          subst (AreEntries shape len) (sym grew.table)
          (record { each = entries.each; behind = entries.behind; roomy = let roomy = entries.roomy in omega (arith, roomy) });
    }

-- ---- more chains

-- the hash that a row has in a table
abbrev spread_at : Shape → List ℕ → ℕ
spread_at shape row = spread (hash_at shape row)

-- the hash of a partial row's key is found where the row stands
pub hash_there : RowBack → (shape : Shape) (row : List ℕ) → IsPartialRow shape row → hash_at shape row ≡ hash_of (key_at shape row)
hash_there back shape row is =
    let found = found_of back shape row is in
    let body : drop 4 row ≡ found.0 = ap (drop 4) (sym found.1) in
    ap (λ (bytes : List ℕ). hash_of (key_in (parts_at (key_kinds shape) bytes))) body ∙ ap (λ o. hash_of (key_in o)) found.5

entries_wide : RowBack → (shape : Shape) (len heads now : ℕ) (nodes : List Node) → All (IsEntry shape len heads) nodes → All (IsEntry shape len now) (map (rechained (spread_at shape) now) nodes)
entries_wide back shape len heads now [] each = All-nil (IsEntry shape len now)
entries_wide back shape len heads now (n ∷ nodes) each =
    let one = All-head (IsEntry shape len heads) n nodes each in
    All-cons (IsEntry shape len now) (rechained (spread_at shape) now n) (map (rechained (spread_at shape) now) nodes)
    (record { row = one.row; short = one.short; chain = ap (λ (h : ℕ). spread h % now) (hash_there back shape n.row one.row) })
    (entries_wide back shape len heads now nodes (All-tail (IsEntry shape len heads) n nodes each))

used_wide : (hash : List ℕ → ℕ) (now : ℕ) (nodes : List Node) → used_by (map (rechained hash now) nodes) ≡ used_by nodes
used_wide hash now [] = refl
used_wide hash now (n ∷ nodes) = refl

behind_wide : (hash : List ℕ → ℕ) (now : ℕ) (nodes : List Node) → StandBehind nodes → StandBehind (map (rechained hash now) nodes)
behind_wide hash now [] stand = tt
behind_wide hash now (n ∷ nodes) stand = (stand.0 ∙ sym (used_wide hash now nodes), behind_wide hash now nodes stand.1)

rows_wide : (hash : List ℕ → ℕ) (now : ℕ) (nodes : List Node) → map (λ (n : Node). n.row) (map (rechained hash now) nodes) ≡ map (λ (n : Node). n.row) nodes
rows_wide hash now [] = refl
rows_wide hash now (n ∷ nodes) = ap (λ (rows : List (List ℕ)). n.row ∷ rows) (rows_wide hash now nodes)

-- twice the heads
pub widened_got : RowBack → (t more : ℕ) (shape : Shape) (len : ℕ) (table now : Table) (old new : Holdings) → table.client ≡ t → bytes_of table.head_loans ≡ more → Widened (spread_at shape) table now old new → Got t more shape len table now old new
widened_got back t more shape len table now old new client bytes_are wide =
    let loans_now : loans_of now ≡ (table.head_loans ++ wide.loans) ++ table.node_loans = ap loans_of wide.table in
    let bytes : bytes_of wide.loans ≡ more = wide.bytes ∙ bytes_are in
    record {
      loans = wide.loans;
      lends = subst (λ (k : ℕ). Lends k wide.loans old new) client wide.lends;
      gets = record {
        client = ap (λ (x : Table). x.client) wide.table;
        blocks = ap (λ (x : Table). x.page_blocks) wide.table;
        lent_is =
            let all = ap bytes_of loans_now in
            let one = bytes-append (table.head_loans ++ wide.loans) table.node_loans in
            let two = bytes-append table.head_loans wide.loans in
            let three = bytes-append table.head_loans table.node_loans in
            omega (arith, all, one, two, three, bytes);
        bytes = bytes;
        apart = λ q apart.
            let both : IsApart q ((table.head_loans ++ wide.loans) ++ table.node_loans) = subst (IsApart q) loans_now apart in
            let heads = apart_front q (table.head_loans ++ wide.loans) table.node_loans both in (
              apart_behind q table.head_loans wide.loans heads,
              All-append (λ l. l.number ≢ q) table.head_loans table.node_loans (apart_front q table.head_loans wide.loans heads) (apart_behind q (table.head_loans ++ wide.loans) table.node_loans both),
            );
      };
      rows = ap rows_of wide.table ∙ rows_wide (spread_at shape) (2 * table.heads) table.nodes;
      entries = λ entries.
          subst (AreEntries shape len) (sym wide.table)
          (record {
            each = entries_wide back shape len table.heads (2 * table.heads) table.nodes entries.each;
            behind = behind_wide (spread_at shape) (2 * table.heads) table.nodes entries.behind;
            roomy = entries.roomy;
          });
    }
