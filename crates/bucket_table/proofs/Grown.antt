-- A table whose node area became longer.
use Rattle.std.proofs.Common.{◌≡◌, ℕ, ◌+◌, ◌*◌, ◌^◌, ◌<◌, List, [], ◌∷◌, ◌++◌, take, replicate, length, refl, ap, sym, ◌∙◌, subst, arith, append_assoc, length-append}
use Rattle.std.proofs.lemmas.List.{length-replicate, take-append-le}
use Rattle.store_api.specs.Holdings.{Holdings}
use Rattle.bucket_table.specs.Tables.{Lent, Table, used_by}
use Rattle.bucket_table.specs.Filling.{Fills, each_of}
use Rattle.bucket_table.specs.Lending.{AreHeld, Grew, IsTableOf, Lends, bytes_of, loans_of}
use Rattle.bucket_table.specs.Regions.{Region}
use Rattle.bucket_table.specs.Threads.{IsTable, IsThreaded, client_in, nodes_in, table_of}
use Rattle.store_api.specs.Alike.{Alike}
use Rattle.bucket_table.specs.Tables.{with_nodes}
use Rattle.bucket_table.proofs.Held.{held_more}
use Rattle.bucket_table.proofs.Lent.{lends_same, lends_trans}
use Rattle.bucket_table.proofs.Nodes.{nodes_same}
use Rattle.bucket_table.proofs.Threaded.{table_is}

pub longer : (heads used : ℕ) (links area more : List ℕ) → IsTable heads used links area → length (area ++ more) < 2 ^ 32 → IsTable heads used links (area ++ more) × (nodes_in heads links (area ++ more) ≡ nodes_in heads links area)
longer heads used links area more is short =
    let nodes = nodes_in heads links area in
    let same : take (used_by nodes) (area ++ more) ≡ take (used_by nodes) area = take-append-le (used_by nodes) area more is.threaded.inside in
    let now : IsThreaded heads links (area ++ more) nodes = record {
      stand = nodes_same heads (used_by nodes) area (area ++ more) nodes (omega arith) same is.threaded.stand;
      linked = is.threaded.linked;
      inside = omega (arith, is.threaded.inside, length-append area more);
    } in
    table_is heads used links (area ++ more) nodes now is.used_is is.sized is.some is.few short

-- ---- with one loan more

pub one_of : (loans : List Lent) → length loans ≡ 1 → (l : Lent) × (loans ≡ l ∷ [])
one_of [] many = absurd (omega (arith, many))
one_of (l ∷ []) many = (l, refl)
one_of (l ∷ m ∷ loans) many = absurd (omega (arith, many))

module _ (t heads used : ℕ) (links area area_new : Region) (old new : Holdings) (is : IsTable heads used links.bytes area.bytes) (came : Fills t 1 area area_new old new) (short : length area.bytes + each_of area < 2 ^ 32) where
  bytes_short : length (area.bytes ++ replicate (1 * each_of area) 0) < 2 ^ 32
  bytes_short = (let sum = length-append area.bytes (replicate (1 * each_of area) 0) in let long = length-replicate {A = ℕ} (1 * each_of area) 0 in omega (arith, sum, long, short))

  pub grown_table : IsTable heads used links.bytes area_new.bytes
  grown_table =
      subst (λ (r : Region). IsTable heads used links.bytes r.bytes) (sym came.region)
      (longer heads used links.bytes area.bytes (replicate (1 * each_of area) 0) is bytes_short).0

  pub nodes_kept : nodes_in heads links.bytes area_new.bytes ≡ nodes_in heads links.bytes area.bytes
  nodes_kept =
      ap (λ (r : Region). nodes_in heads links.bytes r.bytes) came.region
      ∙ (longer heads used links.bytes area.bytes (replicate (1 * each_of area) 0) is bytes_short).1

  pub grew : client_in links.loans ≡ t → Grew (table_of heads links area) (table_of heads links area_new) old new
  grew client =
      let one = one_of came.more came.many in
      let loans : area_new.loans ≡ area.loans ++ one.0 ∷ [] = ap (λ (r : Region). r.loans) came.region ∙ ap (λ (more : List Lent). area.loans ++ more) one.1 in
      let room : length area_new.bytes ≡ length area.bytes + each_of area =
      ap (λ (r : Region). length r.bytes) came.region
      ∙ (let sum = length-append area.bytes (replicate (1 * each_of area) 0) in let long = length-replicate {A = ℕ} (1 * each_of area) 0 in let e : length (area.bytes ++ replicate (1 * each_of area) 0) ≡ length area.bytes + each_of area = omega (arith, sum, long) in e)
      in
      let blocks : area_new.blocks ≡ area.blocks = ap (λ (r : Region). r.blocks) came.region in
      let block_len : area_new.block_len ≡ area.block_len = ap (λ (r : Region). r.block_len) came.region in
      record {
        loan = one.0;
        table = λ i. record {
          client = client_in links.loans;
          page_blocks = blocks i;
          block_len = block_len i;
          heads = heads;
          room = room i;
          nodes = nodes_kept i;
          head_loans = links.loans;
          node_loans = loans i;
        };
        bytes = (let whole = sym (ap bytes_of one.1) ∙ came.bytes in let e : one.0.blocks * one.0.block_len ≡ each_of area = omega (arith, whole) in e);
        lends = subst (λ (k : ℕ). Lends k (one.0 ∷ []) old new) (sym client) (subst (λ (more : List Lent). Lends t more old new) one.1 came.lends);
      }

-- it is still one of its store
pub grew_held : (was now : Table) (old new : Holdings) → IsTableOf was old → Grew was now old new → IsTableOf now new
grew_held was now old new is grew =
    let held = held_more was.client (loans_of was) (grew.loan ∷ []) old new is.held grew.lends in
    subst (λ (table : Table). IsTableOf table new) (sym grew.table) (record {
      held = subst (AreHeld was.client new) (append_assoc was.head_loans was.node_loans (grew.loan ∷ [])) held;
      sized = is.sized;
      block_len = is.block_len ∙ sym (ap (λ (h : Holdings). h.block_len) grew.lends.rest);
    })

-- the same where it grew between
pub grew_closed : (t : ℕ) (table grown now : Table) (old mid more new : Holdings) → table.client ≡ t → Grew table grown mid more → now ≡ with_nodes now.nodes grown → Lends t (loans_of table) old mid → Lends now.client (loans_of now) new more → Alike old new
grew_closed t table grown now old mid more new client grew same lent back =
    let came : Lends t (grew.loan ∷ []) mid more = subst (λ (k : ℕ). Lends k (grew.loan ∷ []) mid more) client grew.lends in
    let all : Lends t (loans_of table ++ grew.loan ∷ []) old more = lends_trans t (loans_of table) (grew.loan ∷ []) old mid more lent came in
    let there : Lends grown.client (loans_of grown) new more = subst (λ (x : Table). Lends x.client (loans_of x) new more) same back in
    let loans : loans_of grown ≡ loans_of table ++ grew.loan ∷ [] = ap loans_of grew.table ∙ sym (append_assoc table.head_loans table.node_loans (grew.loan ∷ [])) in
    let owner : grown.client ≡ t = ap (λ (x : Table). x.client) grew.table ∙ client in
    lends_same t (loans_of table ++ grew.loan ∷ []) old more new all
    (subst (λ (k : ℕ). Lends k (loans_of table ++ grew.loan ∷ []) new more) owner (subst (λ (ls : List Lent). Lends grown.client ls new more) loans there))
