use Rattle.std.proofs.Common.{◌≡◌, ◌/◌, ℕ, length, ap, sym, ◌∙◌, arith}
use Rattle.bucket_table.specs.Threads.{client_in}
use Rattle.bucket_table.proofs.Emptied.{empty_over}
use Rattle.bucket_table.proofs.table.BucketTable.over.Goals as goal

pub invariant_of-result : goal.invariant_of-result
invariant_of-result c =
    let links = c.args.heads.bytes in
    let chains : c.of-chains.result.len ≡ length links / 4 = c.of-chains.ensures ∙ ap (λ (n : ℕ). n / 4) c.len.ensures.value in
    let none = empty_over c.of-chains.result.len links c.args.nodes.bytes chains c.requires.zeros c.requires.some (omega (arith, c.len.ensures.value, c.len.ensures.short)) (omega (arith, c.len-nodes.ensures.value, c.len-nodes.ensures.short)) in
    record {
      laid = record { table = none.0; blocks = c.requires.blocks; block_len = c.requires.block_len };
      counted = sym (ap length none.1);
    }

pub returns : goal.returns
returns c =
    let links = c.args.heads.bytes in
    let heads = c.args.heads in
    let nodes = c.args.nodes in
    let chains : c.of-chains.result.len ≡ length links / 4 = c.of-chains.ensures ∙ ap (λ (n : ℕ). n / 4) c.len.ensures.value in
    let none = (empty_over c.of-chains.result.len links nodes.bytes chains c.requires.zeros c.requires.some (omega (arith, c.len.ensures.value, c.len.ensures.short)) (omega (arith, c.len-nodes.ensures.value, c.len-nodes.ensures.short))).1 in
    λ i. record {
      client = client_in heads.loans;
      page_blocks = nodes.blocks;
      block_len = nodes.block_len;
      heads = chains i;
      room = length nodes.bytes;
      nodes = none i;
      head_loans = heads.loans;
      node_loans = nodes.loans;
    }
