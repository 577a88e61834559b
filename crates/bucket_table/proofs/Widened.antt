-- A table that got more chains.
use Rattle.std.proofs.Common.{◌≡◌, ◌≢◌, ℕ, ◌+◌, ◌*◌, ◌<◌, ◌≤◌, List, [], ◌∷◌, ◌++◌, map, None, length, refl, ap, sym, ◌∙◌, subst, arith}
use Rattle.std.specs.Prelude.{All}
use Rattle.std.proofs.lemmas.List.Elements.{All-append}
use Rattle.store_api.specs.Alike.{Alike}
use Rattle.store_api.specs.Holdings.{Holdings, account_of, unused_of}
use Rattle.bucket_table.specs.Tables.{Lent, Table, with_nodes}
use Rattle.bucket_table.specs.Filling.{Doubles}
use Rattle.bucket_table.specs.Lending.{IsTableOf, Lends, bytes_of, loans_of}
use Rattle.bucket_table.specs.Regions.{Region}
use Rattle.bucket_table.specs.Rethreading.{HasRows, Rethreads}
use Rattle.bucket_table.specs.Threads.{IsLaid, client_in, nodes_in, table_of}
use Rattle.bucket_table.specs.Widening.{Widened, rechained}
use Rattle.bucket_table.proofs.Held.{held_more, held_of, held_swap}
use Rattle.bucket_table.proofs.Lent.{All-split, bytes-append, lends_same, lends_trans}
use Rattle.bucket_table.proofs.Standing.{rows_of}

-- the rows of a table, for whoever moves them
pub has_rows : (heads used most long : ℕ) (links area : Region) → IsLaid heads used links area → long ≡ most → All (λ n. length n.row ≤ most) (nodes_in heads links.bytes area.bytes) → HasRows (nodes_in heads links.bytes area.bytes) used long area.bytes
has_rows heads used most long links area is same fits = record {
  stand = rows_of heads area.bytes (nodes_in heads links.bytes area.bytes) is.table.threaded.stand;
  used_is = is.table.used_is;
  inside = omega (arith, is.table.used_is, is.table.threaded.inside);
  short = is.table.short;
  fits = subst (λ (k : ℕ). All (λ n. length n.row ≤ k) (nodes_in heads links.bytes area.bytes)) (sym same) fits;
}

client_more : (loans more : List Lent) (some : ℕ) → 0 < some → bytes_of loans ≡ some → client_in (loans ++ more) ≡ client_in loans
client_more [] more some is none = absurd (omega (arith, is, none))
client_more (l ∷ loans) more some is bytes = refl

module _ (t heads chains used : ℕ) (hash : List ℕ → ℕ) (links area links_mid links_new area_new : Region) (old new : Holdings) (is : IsLaid heads used links area) (came : Doubles t links links_mid old new) (now : Rethreads hash (nodes_in heads links.bytes area.bytes) chains used links_mid area links_new area_new) where
  links_blocks : links_new.blocks ≡ links.blocks
  links_blocks = ap (λ (r : Region). r.blocks) now.heads_same ∙ ap (λ (r : Region). r.blocks) came.fills.region

  links_len : links_new.block_len ≡ links.block_len
  links_len = ap (λ (r : Region). r.block_len) now.heads_same ∙ ap (λ (r : Region). r.block_len) came.fills.region

  links_loans : links_new.loans ≡ links.loans ++ came.fills.more
  links_loans = ap (λ (r : Region). r.loans) now.heads_same ∙ ap (λ (r : Region). r.loans) came.fills.region

  area_blocks : area_new.blocks ≡ area.blocks
  area_blocks = ap (λ (r : Region). r.blocks) now.rows_same

  area_len : area_new.block_len ≡ area.block_len
  area_len = ap (λ (r : Region). r.block_len) now.rows_same

  area_loans : area_new.loans ≡ area.loans
  area_loans = ap (λ (r : Region). r.loans) now.rows_same

  pub laid_wide : IsLaid chains used links_new area_new
  laid_wide = record {
    table = now.table;
    blocks = links_blocks ∙ is.blocks ∙ sym area_blocks;
    block_len = links_len ∙ is.block_len ∙ sym area_len;
  }

  client_kept : client_in links_new.loans ≡ client_in links.loans
  client_kept = ap client_in links_loans ∙ client_more links.loans came.fills.more (length links.bytes) (omega (arith, is.table.some, is.table.sized)) came.bytes

  pub widened : chains ≡ 2 * heads → t ≡ client_in links.loans → Widened hash (table_of heads links area) (table_of chains links_new area_new) old new
  widened twice client = record {
    loans = came.fills.more;
    table = λ i. record {
      client = client_kept i;
      page_blocks = area_blocks i;
      block_len = area_len i;
      heads = twice i;
      room = now.long i;
      nodes = (now.nodes ∙ ap (λ (k : ℕ). map (rechained hash k) (nodes_in heads links.bytes area.bytes)) twice) i;
      head_loans = links_loans i;
      node_loans = area_loans i;
    };
    bytes = came.more ∙ sym came.bytes;
    lends = subst (λ (k : ℕ). Lends k came.fills.more old new) client came.fills.lends;
  }

-- ---- what it was lent comes back when it ends

loans_in_order : (a b c : List Lent) (P : Lent → Type 0) → All P ((a ++ c) ++ b) → All P ((a ++ b) ++ c)
loans_in_order a b c P all =
    let outer = All-split P (a ++ c) b all in
    let inner = All-split P a c outer.0 in
    All-append P (a ++ b) c (All-append P a b inner.0 outer.1) inner.1

lends_swap : (t : ℕ) (a b c : List Lent) (x y : Holdings) → Lends t ((a ++ b) ++ c) x y → Lends t ((a ++ c) ++ b) x y
lends_swap t a b c x y is =
    let held = held_swap t a b c y (held_of t ((a ++ b) ++ c) x y is) in
    let bytes : bytes_of ((a ++ b) ++ c) ≡ bytes_of ((a ++ c) ++ b) =
    (let one = bytes-append (a ++ b) c in let two = bytes-append a b in let three = bytes-append (a ++ c) b in let four = bytes-append a c in omega (arith, one, two, three, four))
    in
    record {
      rest = is.rest;
      was = is.was;
      is = is.is;
      charged = is.charged ∙ ap (λ (n : ℕ). record (account_of t y) { unused = unused_of t y + n }) bytes;
      clients = is.clients;
      others = λ q apart. is.others q (loans_in_order a b c (λ l. l.number ≢ q) apart);
      fresh = loans_in_order a c b (λ l. x.loans l.number ≡ None) is.fresh;
      own = held.own;
      apart = held.apart;
    }

-- stores that hold the same number by number hold the same
pub alike_same : (old new : Holdings) → Alike old new → new ≡ old
alike_same old new is = λ i. record {
  block_len = is.rest.block_len i;
  session = is.rest.session i;
  query = is.rest.query i;
  limit = is.rest.limit i;
  reservation = is.reservation i;
  room = is.room i;
  above = is.above i;
  live_clients = is.rest.live_clients i;
  clients = λ q. is.clients q i;
  pages = λ q. is.rest.pages q i;
  loans = λ q. is.rest.loans q i;
  free_slots = is.rest.free_slots i;
  told = is.rest.told i;
}

-- a table that was opened, got rows and more chains, and other rows, and then ended
pub widened_closed : (t : ℕ) (hash : List ℕ → ℕ) (table first wide last : Table) (old mid more new : Holdings) → table.client ≡ t → first ≡ with_nodes first.nodes table → Widened hash first wide mid more → last ≡ with_nodes last.nodes wide → Lends t (loans_of table) old mid → Lends last.client (loans_of last) new more → Alike old new
widened_closed t hash table first wide last old mid more new client rows came same lent back =
    let owner : first.client ≡ t = ap (λ (x : Table). x.client) rows ∙ client in
    let lent_first : Lends t (loans_of first) old mid = subst (λ (loans : List Lent). Lends t loans old mid) (sym (ap loans_of rows)) lent in
    let came_more : Lends t came.loans mid more = subst (λ (k : ℕ). Lends k came.loans mid more) owner came.lends in
    let all : Lends t ((first.head_loans ++ came.loans) ++ first.node_loans) old more = lends_swap t first.head_loans first.node_loans came.loans old more (lends_trans t (loans_of first) came.loans old mid more lent_first came_more) in
    let there : Lends wide.client (loans_of wide) new more = subst (λ (x : Table). Lends x.client (loans_of x) new more) same back in
    let wide_owner : wide.client ≡ t = ap (λ (x : Table). x.client) came.table ∙ owner in
    lends_same t ((first.head_loans ++ came.loans) ++ first.node_loans) old more new all
    (subst (λ (k : ℕ). Lends k ((first.head_loans ++ came.loans) ++ first.node_loans) new more) wide_owner (subst (λ (ls : List Lent). Lends wide.client ls new more) (ap loans_of came.table) there))

-- it is still one of its store
pub widened_held : (hash : List ℕ → ℕ) (was now : Table) (old new : Holdings) → IsTableOf was old → Widened hash was now old new → IsTableOf now new
widened_held hash was now old new is wide =
    subst (λ (table : Table). IsTableOf table new) (sym wide.table) (record {
      held = held_swap was.client was.head_loans was.node_loans wide.loans new (held_more was.client (was.head_loans ++ was.node_loans) wide.loans old new is.held wide.lends);
      sized = is.sized;
      block_len = is.block_len ∙ sym (ap (λ (h : Holdings). h.block_len) wide.lends.rest);
    })
