-- What contracts see of a table whose bytes changed.
use Rattle.std.proofs.Common.{◌≡◌, ℕ, List, length, ap, sym, ◌∙◌, subst}
use Rattle.bucket_table.specs.Tables.{Node, with_nodes}
use Rattle.bucket_table.specs.Regions.{Region, with_bytes}
use Rattle.bucket_table.specs.Threads.{IsLaid, IsTable, client_in, nodes_in, table_of}

pub view_now : (heads : ℕ) (links area links_new area_new : Region) (links_now area_now : List ℕ) (nodes : List Node) → links_new ≡ with_bytes links_now links → area_new ≡ with_bytes area_now area → length area_now ≡ length area.bytes → nodes_in heads links_now area_now ≡ nodes
    → table_of heads links_new area_new ≡ with_nodes nodes (table_of heads links area)
view_now heads links area links_new area_new links_now area_now nodes one two long are =
    ap (λ (r : Region). table_of heads r area_new) one ∙ ap (table_of heads (with_bytes links_now links)) two ∙ λ i. record {
      client = client_in links.loans;
      page_blocks = area.blocks;
      block_len = area.block_len;
      heads = heads;
      room = long i;
      nodes = are i;
      head_loans = links.loans;
      node_loans = area.loans;
    }

module _ (heads : ℕ) (links area links_new area_new : Region) (links_now area_now : List ℕ) (one : links_new ≡ with_bytes links_now links) (two : area_new ≡ with_bytes area_now area) where
  pub laid_now : (before used : ℕ) → IsLaid heads before links area → IsTable heads used links_now area_now → IsLaid heads used links_new area_new
  laid_now before used was is = record {
    table = subst (λ (r : Region). IsTable heads used r.bytes area_new.bytes) (sym one) (subst (λ (r : Region). IsTable heads used links_now r.bytes) (sym two) is);
    blocks = ap (λ (r : Region). r.blocks) one ∙ was.blocks ∙ sym (ap (λ (r : Region). r.blocks) two);
    block_len = ap (λ (r : Region). r.block_len) one ∙ was.block_len ∙ sym (ap (λ (r : Region). r.block_len) two);
  }

  pub nodes_now : (nodes : List Node) → nodes_in heads links_now area_now ≡ nodes → nodes_in heads links_new.bytes area_new.bytes ≡ nodes
  nodes_now nodes are = ap (λ (r : Region). nodes_in heads r.bytes area_new.bytes) one ∙ ap (λ (r : Region). nodes_in heads links_now r.bytes) two ∙ are
