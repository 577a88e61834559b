use Rattle.std.proofs.Common.{rules, ◌≡◌, ℕ, ◌%◌, [], ◌∷◌, List, ◌<◌, Some, Option, Ok, Err, ap, sym, subst}
use Rattle.std.specs.Prelude.{IfSome}
use Rattle.row_codec.specs.Order.{hash_of}
use Rattle.row_codec.specs.declared.values.Value.{Value}
use Rattle.bucket_table.specs.Spreading.{spread}
use Rattle.bucket_table.specs.Tables.{HasNode, Node, newest_on, next_on_chain, row_of}
use Rattle.join_op.specs.Holding.{held_side, pairs_with, stored}
use Rattle.join_op.specs.PairCalls.{HandsPairs, took_by}
use Rattle.join_op.proofs.ChainWalks.{HasNext, IsWalking, fewer_left, has_next, left_on, to_come, walk_left, walk_on, walk_split, walk_starts}
use Rattle.join_op.proofs.PairSteps.{as_err, pairs_memory, pairs_stopped, stands_none, stands_then}
use Rattle.join_op.proofs.meeting.meet_chain.Goals as goal

pub chain-init : goal.chain-init
chain-init g c =
    let k : ℕ = spread (hash_of c.args.row.now.key.items) % c.args.table.now.heads in
    let took : List (List Value) → Type 0 = took_by g.St.Store g.E.Emit c.args.emit.now c.args.store.now in
    let first : c.find_first-next.result ≡ newest_on k c.args.table.now.nodes = search rules in
    record {
      walking = subst (IsWalking c.args.turned c.args.shape.now c.args.row.now.row.items k took took c.args.table.now.nodes) (sym first)
          (walk_starts c.args.turned c.args.shape.now c.args.row.now.row.items c.args.table.now.heads k (ap (λ (key : List ℕ). spread (hash_of key) % c.args.table.now.heads) c.requires.row.key) took c.args.table.now.nodes c.requires.table);
      there = c.find_first-next.ensures.node;
      stands = stands_none g.St.Store g.E.Emit c.args.emit.now c.args.store.now c.requires.may.client;
    }

pub chain-smaller : goal.chain-smaller
chain-smaller g c =
    let k : ℕ = spread (hash_of c.args.row.now.key.items) % c.args.table.now.heads in
    let nodes : List Node = c.args.table.now.nodes in
    let b = c.args.turned in
    let shape = c.args.shape.now in
    let row = c.args.row.now.row.items in
    let took : List (List Value) → Type 0 = took_by g.St.Store g.E.Emit c.args.emit.now c.args.store.now in
    let mid : List (List Value) → Type 0 = took_by g.St.Store g.E.Emit c.chain.emit c.chain.store in
    let pairs : List (List ℕ) → List (List Value) = pairs_with b shape (row ∷ []) in
    let walking : IsWalking b shape row k took mid nodes (Some c.in-Some.node) = subst (IsWalking b shape row k took mid nodes) c.in-Some.is c.chain.invariant.walking in
    let has : HasNode c.in-Some.node nodes = subst (λ (o : Option ℕ). IfSome o (λ p. HasNode p nodes)) c.in-Some.is c.chain.invariant.there in
    let step : HasNext k nodes c.in-Some.node = has_next (held_side b shape) c.args.table.now.heads k c.in-Some.node nodes c.requires.table has walking.on in
    subst (λ (o : Option ℕ). left_on c.find_next-next.result < left_on o) (sym c.in-Some.is)
    (subst (λ (o : Option ℕ). left_on o < left_on (Some c.in-Some.node)) (sym c.find_next-next.ensures.value) (fewer_left _ _ step.less))

pub chain-preserved : goal.chain-preserved
chain-preserved g c =
    let k : ℕ = spread (hash_of c.args.row.now.key.items) % c.args.table.now.heads in
    let nodes : List Node = c.args.table.now.nodes in
    let b = c.args.turned in
    let shape = c.args.shape.now in
    let row = c.args.row.now.row.items in
    let took : List (List Value) → Type 0 = took_by g.St.Store g.E.Emit c.args.emit.now c.args.store.now in
    let mid : List (List Value) → Type 0 = took_by g.St.Store g.E.Emit c.chain.emit c.chain.store in
    let pairs : List (List ℕ) → List (List Value) = pairs_with b shape (row ∷ []) in
    let walking : IsWalking b shape row k took mid nodes (Some c.in-Some.node) = subst (IsWalking b shape row k took mid nodes) c.in-Some.is c.chain.invariant.walking in
    let has : HasNode c.in-Some.node nodes = subst (λ (o : Option ℕ). IfSome o (λ p. HasNode p nodes)) c.in-Some.is c.chain.invariant.there in
    let step : HasNext k nodes c.in-Some.node = has_next (held_side b shape) c.args.table.now.heads k c.in-Some.node nodes c.requires.table has walking.on in
    let now : List (List Value) → Type 0 = took_by g.St.Store g.E.Emit c.join_two.new.emit c.join_two.new.store in
    let met = subst (λ (r : List ℕ). HandsPairs g.St.Store g.E.Emit (pairs (r ∷ [])) c.chain.emit c.join_two.new.emit c.chain.store c.join_two.new.store (Ok tt)) c.in-Ok.ensures.row c.in_ok-join_two.ensures in
    record {
      walking = subst (IsWalking b shape row k took now nodes) (sym c.find_next-next.ensures.value) (walk_on b shape row k took mid nodes c.in-Some.node walking step now met.ok);
      there = c.find_next-next.ensures.node;
      stands = stands_then g.St.Store g.E.Emit c.args.emit.now c.chain.emit c.join_two.new.emit c.args.store.now c.chain.store c.join_two.new.store c.chain.invariant.stands met.stands;
    }

pub returns-in_err-join_two : goal.returns-in_err-join_two
returns-in_err-join_two g c =
    let k : ℕ = spread (hash_of c.args.row.now.key.items) % c.args.table.now.heads in
    let nodes : List Node = c.args.table.now.nodes in
    let b = c.args.turned in
    let shape = c.args.shape.now in
    let row = c.args.row.now.row.items in
    let took : List (List Value) → Type 0 = took_by g.St.Store g.E.Emit c.args.emit.now c.args.store.now in
    let mid : List (List Value) → Type 0 = took_by g.St.Store g.E.Emit c.chain.emit c.chain.store in
    let pairs : List (List ℕ) → List (List Value) = pairs_with b shape (row ∷ []) in
    let walking : IsWalking b shape row k took mid nodes (Some c.in-Some.node) = subst (IsWalking b shape row k took mid nodes) c.in-Some.is c.chain.invariant.walking in
    let has : HasNode c.in-Some.node nodes = subst (λ (o : Option ℕ). IfSome o (λ p. HasNode p nodes)) c.in-Some.is c.chain.invariant.there in
    let step : HasNext k nodes c.in-Some.node = has_next (held_side b shape) c.args.table.now.heads k c.in-Some.node nodes c.requires.table has walking.on in
    let met = subst (λ (r : List ℕ). HandsPairs g.St.Store g.E.Emit (pairs (r ∷ [])) c.chain.emit c.join_two.new.emit c.chain.store c.join_two.new.store (Err c.in_err-join_two.field-0.0)) c.in-Ok.ensures.row c.in_err-join_two.ensures in
    as_err (HandsPairs g.St.Store g.E.Emit (pairs (stored nodes)) c.args.emit.now c.join_two.new.emit c.args.store.now c.join_two.new.store) c.from_residual.result c.in_err-join_two.field-0.0 c.from_residual.ensures
    (pairs_stopped g.St.Store g.E.Emit c.args.emit.now c.chain.emit c.args.store.now c.chain.store (pairs walking.done) walking.emitted c.chain.invariant.stands
    c.join_two.new.emit c.join_two.new.store (pairs (row_of c.in-Some.node nodes ∷ [])) (pairs (to_come k nodes (next_on_chain c.in-Some.node nodes))) (pairs (stored nodes)) c.in_err-join_two.field-0.0
    (walk_split b shape row k took mid nodes c.in-Some.node walking step) met)

pub returns-in_default-read_back : goal.returns-in_default-read_back
returns-in_default-read_back g c =
    let k : ℕ = spread (hash_of c.args.row.now.key.items) % c.args.table.now.heads in
    let nodes : List Node = c.args.table.now.nodes in
    let b = c.args.turned in
    let shape = c.args.shape.now in
    let row = c.args.row.now.row.items in
    let took : List (List Value) → Type 0 = took_by g.St.Store g.E.Emit c.args.emit.now c.args.store.now in
    let mid : List (List Value) → Type 0 = took_by g.St.Store g.E.Emit c.chain.emit c.chain.store in
    let pairs : List (List ℕ) → List (List Value) = pairs_with b shape (row ∷ []) in
    let walking : IsWalking b shape row k took mid nodes (Some c.in-Some.node) = subst (IsWalking b shape row k took mid nodes) c.in-Some.is c.chain.invariant.walking in
    pairs_memory g.St.Store g.E.Emit c.args.emit.now c.chain.emit c.args.store.now c.chain.store (pairs walking.done) walking.emitted c.chain.invariant.stands
    (pairs (to_come k nodes (Some c.in-Some.node))) (pairs (stored nodes)) (walk_left b shape row k took mid nodes (Some c.in-Some.node) walking)
