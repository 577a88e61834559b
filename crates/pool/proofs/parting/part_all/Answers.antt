use Rattle.std.proofs.Common.{◌≡◌, ℕ, ◌+◌, ◌-◌, ◌<◌, List, [], ◌∷◌, ◌++◌, length, drop, get_or, map, Result, Ok, refl, sym, ap, ◌∙◌, subst, arith, length-drop}
use Rattle.std.proofs.lemmas.List.{drop_all, length-map, map-append}
use Rattle.std.specs.List.{All}
use Rattle.reservation_tree.specs.declared.errors.PoolErr.{PoolErr}
use Rattle.turn_table.specs.Face.{Spot}
use Rattle.pool.specs.declared.ask.Ask.{Ask}
use Rattle.pool.specs.declared.item.Item.{Item}
use Rattle.pool.specs.Asking.{Answers, all_numbers, answer_of}
use Rattle.pool.specs.Admitting.{numbered}
use Rattle.pool.specs.Parting.{AreComing, AreSeats, IsComing, handed_out}
use Rattle.pool.proofs.Parted.{PartingAll, ask_parted, ask_refused, at_answer, come_here, coming_at, coming_count, empty_room, first_ask, hand_front, last_ask, room_for, rooms_left}
use Rattle.pool.proofs.parting.part_all.Goals.{in-Ok, in-Err}
use Rattle.pool.proofs.parting.part_all.Goals as goal

abbrev no_ask : Ask
no_ask = record { limit = 0; quota = 0; least = 0; count = 0 }

pub loop-i-init : goal.loop-i-init
loop-i-init g c = (
  c.args.answers.ok.0 ∙ ap length c.requires.none,
  c.requires.room,
  c.requires.coming,
  subst (λ (had : Answers). PartingAll c.args.turns.now (map numbered c.args.numbers.now) (map numbered c.args.numbers.now) c.args.seat.now.knows c.args.seat.now had) (sym (ap (map (answer_of (λ v. v.items) (λ s. s.seat))) c.requires.none))
      (first_ask c.args.turns.now (map numbered c.args.numbers.now) c.args.seat.now c.requires.table c.requires.first c.requires.hand),
)

pub unwrap-room-requires : goal.unwrap-room-requires
unwrap-room-requires g c =
    let some : length (drop c.loop-i.i c.args.asks.now) ≡ length c.args.asks.now - c.loop-i.i = length-drop c.loop-i.i c.args.asks.now in
    let count = c.loop-i.invariant.2.count in
    let len = c.loop-i.rooms.ok.0 in
    let more = c.loop-i-test.true in
    c.pop.ensures.variant.1 (omega (arith, some, count, len, more))

pub bounds-numbers-i : goal.bounds-numbers-i
bounds-numbers-i g c =
    let all : length (map numbered c.args.numbers.now) ≡ length c.args.asks.now =
    coming_count g.T.Opened.opening g.T.Opened.outset.told c.args.seat.now.knows.seen c.requires.coming.most c.args.asks.now (map numbered c.args.numbers.now) c.requires.coming.came in
    let same : length (map numbered c.args.numbers.now) ≡ length c.args.numbers.now = length-map c.args.numbers.now numbered in
    let more = c.loop-i-test.true in
    omega (arith, all, same, more)

-- each place of an ask is one of an answer
within : (asks ns i : ℕ) → ns ≡ asks → i < asks → i < ns
within asks ns i same less = omega (arith, same, less)

pub part_ask-requires : goal.part_ask-requires
part_ask-requires g c =
    let asks : List Ask = c.args.asks.now in
    let i : ℕ = c.loop-i.i in
    let ms : List ℕ = c.deref.result.now in
    let all : length (map numbered c.args.numbers.now) ≡ length c.args.asks.now =
    coming_count g.T.Opened.opening g.T.Opened.outset.told c.args.seat.now.knows.seen c.requires.coming.most c.args.asks.now (map numbered c.args.numbers.now) c.requires.coming.came in
    let less : i < length c.args.numbers.now = within (length asks) (length c.args.numbers.now) i (sym (length-map c.args.numbers.now numbered) ∙ all) c.loop-i-test.true in
    let its : map numbered (drop i c.args.numbers.now) ≡ Ok ms ∷ map numbered (drop (i + 1) c.args.numbers.now) =
    at_answer c.args.numbers.now i c.index-numbers-i.result (Ok ms) less c.index-numbers-i.is (ap numbered c.in-Ok.is ∙ ap (λ (ns : List ℕ). Ok ns) (sym c.deref.ensures.value)) in
    let are : AreComing g.T.Opened.opening g.T.Opened.outset.told c.args.seat.now.knows.seen (get_or asks i no_ask ∷ drop (i + 1) asks) (Ok ms ∷ map numbered (drop (i + 1) c.args.numbers.now)) c.loop-i.rooms.items =
    coming_at g.T.Opened.opening g.T.Opened.outset.told c.args.seat.now.knows.seen asks no_ask c.loop-i.rooms.items c.args.numbers.now i (Ok ms) c.loop-i-test.true its c.loop-i.invariant.2 in
    let was : PartingAll c.args.turns.now (map numbered c.args.numbers.now) (Ok ms ∷ map numbered (drop (i + 1) c.args.numbers.now)) c.args.seat.now.knows c.loop-i.seat (map (answer_of (λ v. v.items) (λ s. s.seat)) c.loop-i.answers.items) =
    subst (λ (todo : List (Result (List ℕ) PoolErr)). PartingAll c.args.turns.now (map numbered c.args.numbers.now) todo c.args.seat.now.knows c.loop-i.seat (map (answer_of (λ v. v.items) (λ s. s.seat)) c.loop-i.answers.items)) its c.loop-i.invariant.3 in
    record {
      power = c.requires.power;
      named = c.requires.named;
      table = was.table;
      first = was.first;
      hand = (hand_front ms (all_numbers (map numbered (drop (i + 1) c.args.numbers.now))) c.loop-i.seat.knows was.hand).0;
      coming =
          subst (λ (items : List Item). All (IsComing g.T.Opened.opening g.T.Opened.outset.told items (get_or asks i no_ask)) ms) (sym was.seen)
          (come_here g.T.Opened.opening g.T.Opened.outset.told c.args.seat.now.knows.seen (get_or asks i no_ask) (drop (i + 1) asks) (map numbered (drop (i + 1) c.args.numbers.now)) c.loop-i.rooms.items c.pop.new.self.items c.pop.result c.unwrap-room.result
          c.pop.ensures.items c.unwrap-room.ensures ms are);
      room = room_for g.T.Opened.opening g.T.Opened.outset.told c.args.seat.now.knows.seen (get_or asks i no_ask) (drop (i + 1) asks) (map numbered (drop (i + 1) c.args.numbers.now)) c.loop-i.rooms.items c.pop.new.self.items c.pop.result c.unwrap-room.result
          c.pop.ensures.items c.unwrap-room.ensures ms are;
    }

pub close_room-requires : goal.close_room-requires
close_room-requires g c =
    let asks : List Ask = c.args.asks.now in
    let i : ℕ = c.loop-i.i in
    let all : length (map numbered c.args.numbers.now) ≡ length c.args.asks.now =
    coming_count g.T.Opened.opening g.T.Opened.outset.told c.args.seat.now.knows.seen c.requires.coming.most c.args.asks.now (map numbered c.args.numbers.now) c.requires.coming.came in
    let less : i < length c.args.numbers.now = within (length asks) (length c.args.numbers.now) i (sym (length-map c.args.numbers.now numbered) ∙ all) c.loop-i-test.true in
    let its : map numbered (drop i c.args.numbers.now) ≡ numbered c.index-numbers-i.result ∷ map numbered (drop (i + 1) c.args.numbers.now) =
    at_answer c.args.numbers.now i c.index-numbers-i.result (numbered c.index-numbers-i.result) less c.index-numbers-i.is refl in
    empty_room g.T.Opened.opening g.T.Opened.outset.told c.args.seat.now.knows.seen (get_or asks i no_ask) (drop (i + 1) asks) (map numbered (drop (i + 1) c.args.numbers.now)) c.loop-i.rooms.items c.pop.new.self.items c.pop.result c.unwrap-room.result
    c.pop.ensures.items c.unwrap-room.ensures (numbered c.index-numbers-i.result)
    (coming_at g.T.Opened.opening g.T.Opened.outset.told c.args.seat.now.knows.seen asks no_ask c.loop-i.rooms.items c.args.numbers.now i (numbered c.index-numbers-i.result) c.loop-i-test.true its c.loop-i.invariant.2)

pub loop-i-preserved : goal.loop-i-preserved
loop-i-preserved g c =
    let asks : List Ask = c.args.asks.now in
    let i : ℕ = c.loop-i.i in
    let todo : List (Result (List ℕ) PoolErr) = map numbered (drop (i + 1) c.args.numbers.now) in
    let had : Answers = map (answer_of (λ v. v.items) (λ s. s.seat)) c.loop-i.answers.items in
    let x : Result (List ℕ) PoolErr = numbered c.index-numbers-i.result in
    let all : length (map numbered c.args.numbers.now) ≡ length c.args.asks.now =
    coming_count g.T.Opened.opening g.T.Opened.outset.told c.args.seat.now.knows.seen c.requires.coming.most c.args.asks.now (map numbered c.args.numbers.now) c.requires.coming.came in
    let less : i < length c.args.numbers.now = within (length asks) (length c.args.numbers.now) i (sym (length-map c.args.numbers.now numbered) ∙ all) c.loop-i-test.true in
    let its : map numbered (drop i c.args.numbers.now) ≡ x ∷ todo = at_answer c.args.numbers.now i c.index-numbers-i.result x less c.index-numbers-i.is refl in
    let are : AreComing g.T.Opened.opening g.T.Opened.outset.told c.args.seat.now.knows.seen (get_or asks i no_ask ∷ drop (i + 1) asks) (x ∷ todo) c.loop-i.rooms.items =
    coming_at g.T.Opened.opening g.T.Opened.outset.told c.args.seat.now.knows.seen asks no_ask c.loop-i.rooms.items c.args.numbers.now i x c.loop-i-test.true its c.loop-i.invariant.2 in
    let was : PartingAll c.args.turns.now (map numbered c.args.numbers.now) (x ∷ todo) c.args.seat.now.knows c.loop-i.seat had =
    subst (λ (l : List (Result (List ℕ) PoolErr)). PartingAll c.args.turns.now (map numbered c.args.numbers.now) l c.args.seat.now.knows c.loop-i.seat had) its c.loop-i.invariant.3 in
    let len = c.push_reserved.ensures.len in
    let len_was = c.loop-i.invariant.0 in
    let cap = c.push_reserved.ensures.capacity in
    let cap_was = c.loop-i.invariant.1 in (
      omega (arith, len, len_was),
      omega (arith, cap, cap_was),
      rooms_left g.T.Opened.opening g.T.Opened.outset.told c.args.seat.now.knows.seen (get_or asks i no_ask) (drop (i + 1) asks) todo c.loop-i.rooms.items c.pop.new.self.items c.pop.result c.unwrap-room.result
          c.pop.ensures.items c.unwrap-room.ensures x are,
      subst (λ (ss : Answers). PartingAll c.args.turns.now (map numbered c.args.numbers.now) todo c.args.seat.now.knows c.match-numbers-i.seat ss)
          (sym (ap (map (answer_of (λ v. v.items) (λ s. s.seat))) c.push_reserved.ensures.items ∙ map-append (answer_of (λ v. v.items) (λ s. s.seat)) c.loop-i.answers.items (c.match-numbers-i.answer ∷ [])))
          (elim c.match-numbers-i.branch [
            | in-Ok w ↦
                subst (λ r. PartingAll c.args.turns.now (map numbered c.args.numbers.now) todo c.args.seat.now.knows c.match-numbers-i.seat (had ++ answer_of (λ v. v.items) (λ s. s.seat) r ∷ [])) (sym w.answer-is)
                (subst (λ (spot : Spot Item). PartingAll c.args.turns.now (map numbered c.args.numbers.now) todo c.args.seat.now.knows spot (had ++ Ok (map (λ s. s.seat) w.part_ask.result.items) ∷ [])) (sym w.seat-is)
                (ask_parted c.args.turns.now (map numbered c.args.numbers.now) todo c.args.seat.now.knows c.loop-i.seat w.part_ask.new.seat had w.deref.result.now (map (λ s. s.seat) w.part_ask.result.items)
                (subst (λ (r : Result (List ℕ) PoolErr). PartingAll c.args.turns.now (map numbered c.args.numbers.now) (r ∷ todo) c.args.seat.now.knows c.loop-i.seat had) (ap numbered w.in-Ok.is ∙ ap (λ (ns : List ℕ). Ok ns) (sym w.deref.ensures.value)) was)
                w.part_ask.ensures.table w.part_ask.ensures.knows w.part_ask.ensures.seats))
            | in-Err w ↦
                subst (λ r. PartingAll c.args.turns.now (map numbered c.args.numbers.now) todo c.args.seat.now.knows c.match-numbers-i.seat (had ++ answer_of (λ v. v.items) (λ s. s.seat) r ∷ [])) (sym w.answer-is)
                (ask_refused c.args.turns.now (map numbered c.args.numbers.now) todo c.args.seat.now.knows c.loop-i.seat c.match-numbers-i.seat had w.in-Err.refusal
                (subst (λ (r : Result (List ℕ) PoolErr). PartingAll c.args.turns.now (map numbered c.args.numbers.now) (r ∷ todo) c.args.seat.now.knows c.loop-i.seat had) (ap numbered w.in-Err.is) was)
                w.seat-is)
          ]),
    )

pub destroy_empty-requires : goal.destroy_empty-requires
destroy_empty-requires g c =
    let some : length (drop c.loop-i.i c.args.asks.now) ≡ length c.args.asks.now - c.loop-i.i = length-drop c.loop-i.i c.args.asks.now in
    let count = c.loop-i.invariant.2.count in
    let len = c.loop-i.rooms.ok.0 in
    let done = c.loop-i-test.false in
    omega (arith, some, count, len, done)

pub returns : goal.returns
returns g c =
    let all : length (map numbered c.args.numbers.now) ≡ length c.args.asks.now =
    coming_count g.T.Opened.opening g.T.Opened.outset.told c.args.seat.now.knows.seen c.requires.coming.most c.args.asks.now (map numbered c.args.numbers.now) c.requires.coming.came in
    let same : length (map numbered c.args.numbers.now) ≡ length c.args.numbers.now = length-map c.args.numbers.now numbered in
    let done = c.loop-i-test.false in
    let none : drop c.loop-i.i c.args.numbers.now ≡ [] = drop_all c.loop-i.i c.args.numbers.now (omega (arith, all, same, done)) in
    let last : (c.loop-i.seat.knows ≡ handed_out (all_numbers (map numbered c.args.numbers.now)) c.args.seat.now.knows) × AreSeats c.args.turns.now c.args.seat.now.knows.seen (map numbered c.args.numbers.now) (map (answer_of (λ v. v.items) (λ s. s.seat)) c.loop-i.answers.items) =
    last_ask c.args.turns.now (map numbered c.args.numbers.now) (map numbered (drop c.loop-i.i c.args.numbers.now)) c.args.seat.now.knows c.loop-i.seat (map (answer_of (λ v. v.items) (λ s. s.seat)) c.loop-i.answers.items) (ap (map numbered) none) c.loop-i.invariant.3 in
    record { table = c.loop-i.invariant.3.table; knows = last.0; seats = last.1 }
