use Rattle.std.proofs.Common.{◌≡◌, ℕ, ◌+◌, List, [], ◌∷◌, length, drop, get_or, map, IfSome, sym, ap, ◌∙◌, subst, arith, length-append}
use Rattle.std.proofs.lemmas.List.{drop_all, map-append}
use Rattle.std.proofs.lemmas.List.Elements.{All-get_or, All-pop}
use Rattle.std.specs.Option.{option_to_list}
use Rattle.pool.specs.declared.item.Item.{Item}
use Rattle.pool.specs.Sitting.{Sitting}
use Rattle.pool.specs.Parting.{IsComing, SeatsOf, handed_out}
use Rattle.pool.proofs.Parted.{Parting, at_place, first_parting, last_parting, next_parting}
use Rattle.pool.proofs.parting.part_ask.Goals as goal

pub loop-number-init : goal.loop-number-init
loop-number-init g c =
    let enough = c.requires.room.accounts in (
      c.args.room.sessions.ok.0 ∙ ap length c.requires.room.sessions.0,
      c.requires.room.sessions.1,
      omega (arith, enough),
      c.requires.room.bare,
      subst (λ (had : List Sitting). Parting c.args.turns.now c.args.numbers.now c.args.numbers.now c.args.seat.now.knows c.args.seat.now had) (sym (ap (map (λ s. s.seat)) c.requires.room.sessions.0))
          (first_parting c.args.turns.now c.args.numbers.now c.args.seat.now c.requires.table c.requires.first c.requires.hand),
    )

pub unwrap-accounts-requires : goal.unwrap-accounts-requires
unwrap-accounts-requires g c =
    let len = c.loop-number.accounts.ok.0 in
    let enough = c.loop-number.invariant.2 in
    let more = c.loop-number-test.true in
    c.pop.ensures.variant.1 (omega (arith, len, enough, more))

pub part_one-session-requires : goal.part_one-session-requires
part_one-session-requires g c =
    let is : drop c.loop-number.number-index c.args.numbers.now ≡ get_or c.args.numbers.now c.loop-number.number-index 0 ∷ drop (c.loop-number.number-index + 1) c.args.numbers.now =
    at_place c.args.numbers.now c.loop-number.number-index 0 c.loop-number-test.true in
    let was : Parting c.args.turns.now c.args.numbers.now (get_or c.args.numbers.now c.loop-number.number-index 0 ∷ drop (c.loop-number.number-index + 1) c.args.numbers.now) c.args.seat.now.knows c.loop-number.seat
    (map (λ s. s.seat) c.loop-number.sessions.items) =
    subst (λ (todo : List ℕ). Parting c.args.turns.now c.args.numbers.now todo c.args.seat.now.knows c.loop-number.seat (map (λ s. s.seat) c.loop-number.sessions.items)) is c.loop-number.invariant.4 in
    record {
      power = c.requires.power;
      none = subst (λ r. IfSome r (λ accounts. accounts ≡ [])) c.unwrap-accounts.ensures (All-pop (λ accounts. accounts ≡ []) c.loop-number.accounts.items c.pop.new.self.items c.pop.result c.pop.ensures.items c.loop-number.invariant.3).1;
      named = c.requires.named;
      table = was.table;
      first = was.first;
      right = was.hand.0;
      coming =
          subst (λ (items : List Item). IsComing g.T.Opened.opening g.T.Opened.outset.told items c.args.ask.now (get_or c.args.numbers.now c.loop-number.number-index 0)) (sym was.seen)
          (All-get_or (IsComing g.T.Opened.opening g.T.Opened.outset.told c.args.seat.now.knows.seen c.args.ask.now) c.args.numbers.now c.loop-number.number-index 0 c.loop-number-test.true c.requires.coming);
    }

pub push_reserved-requires : goal.push_reserved-requires
push_reserved-requires g c =
    let len = c.loop-number.invariant.0 in
    let cap = c.loop-number.invariant.1 in
    let more = c.loop-number-test.true in
    omega (arith, len, cap, more)

pub loop-number-preserved : goal.loop-number-preserved
loop-number-preserved g c =
    let is : drop c.loop-number.number-index c.args.numbers.now ≡ get_or c.args.numbers.now c.loop-number.number-index 0 ∷ drop (c.loop-number.number-index + 1) c.args.numbers.now =
    at_place c.args.numbers.now c.loop-number.number-index 0 c.loop-number-test.true in
    let was : Parting c.args.turns.now c.args.numbers.now (get_or c.args.numbers.now c.loop-number.number-index 0 ∷ drop (c.loop-number.number-index + 1) c.args.numbers.now) c.args.seat.now.knows c.loop-number.seat
    (map (λ s. s.seat) c.loop-number.sessions.items) =
    subst (λ (todo : List ℕ). Parting c.args.turns.now c.args.numbers.now todo c.args.seat.now.knows c.loop-number.seat (map (λ s. s.seat) c.loop-number.sessions.items)) is c.loop-number.invariant.4 in
    let len = c.push_reserved.ensures.len in
    let len_was = c.loop-number.invariant.0 in
    let cap = c.push_reserved.ensures.capacity in
    let cap_was = c.loop-number.invariant.1 in
    let enough = c.loop-number.invariant.2 in
    let all : length c.loop-number.accounts.items ≡ length c.pop.new.self.items + length (option_to_list c.pop.result) = ap length c.pop.ensures.items ∙ length-append c.pop.new.self.items (option_to_list c.pop.result) in
    let one : length (option_to_list c.pop.result) ≡ 1 = ap (λ o. length (option_to_list o)) c.unwrap-accounts.ensures in (
      omega (arith, len, len_was),
      omega (arith, cap, cap_was),
      omega (arith, enough, all, one),
      (All-pop (λ accounts. accounts ≡ []) c.loop-number.accounts.items c.pop.new.self.items c.pop.result c.pop.ensures.items c.loop-number.invariant.3).0,
      subst (λ (had : List Sitting). Parting c.args.turns.now c.args.numbers.now (drop (c.loop-number.number-index + 1) c.args.numbers.now) c.args.seat.now.knows c.part_one-session.new.seat had)
          (sym (ap (map (λ s. s.seat)) c.push_reserved.ensures.items ∙ map-append (λ s. s.seat) c.loop-number.sessions.items (c.part_one-session.result ∷ [])))
          (next_parting c.args.turns.now c.args.numbers.now (drop (c.loop-number.number-index + 1) c.args.numbers.now) (get_or c.args.numbers.now c.loop-number.number-index 0) c.args.seat.now.knows c.loop-number.seat c.part_one-session.new.seat
          (map (λ s. s.seat) c.loop-number.sessions.items) c.part_one-session.result.seat was c.part_one-session.ensures.table c.part_one-session.ensures.parted c.part_one-session.ensures.seat),
    )

pub returns : goal.returns
returns g c =
    let none : drop c.loop-number.number-index c.args.numbers.now ≡ [] = drop_all c.loop-number.number-index c.args.numbers.now c.loop-number-test.false in
    let last : (c.loop-number.seat.knows ≡ handed_out c.args.numbers.now c.args.seat.now.knows) × SeatsOf c.args.turns.now c.args.seat.now.knows.seen c.args.numbers.now (map (λ s. s.seat) c.loop-number.sessions.items) =
    last_parting c.args.turns.now c.args.numbers.now (drop c.loop-number.number-index c.args.numbers.now) c.args.seat.now.knows c.loop-number.seat (map (λ s. s.seat) c.loop-number.sessions.items) none c.loop-number.invariant.4 in
    record { table = c.loop-number.invariant.4.table; knows = last.0; seats = last.1 }
