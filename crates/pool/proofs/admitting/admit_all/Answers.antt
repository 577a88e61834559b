use Rattle.std.proofs.Common.{◌≡◌, ℕ, ◌+◌, ◌-◌, List, [], ◌∷◌, ◌++◌, length, drop, get_or, map, None, Result, refl, sym, ap, ◌∙◌, subst, arith, length-drop}
use Rattle.std.proofs.lemmas.List.{drop_all, map-append}
use Rattle.reservation_tree.specs.declared.errors.PoolErr.{PoolErr}
use Rattle.pin_core.specs.StateOf.{state_of}
use Rattle.pool.specs.declared.ask.Ask.{Ask}
use Rattle.pool.specs.declared.shared.Shared.{Shared}
use Rattle.pool.specs.Remaining.{first_refusal, left_in}
use Rattle.pool.specs.Admitting.{AreSlates, numbered}
use Rattle.pool.proofs.Asked.{few_granted}
use Rattle.pool.proofs.Vacant.{at_most}
use Rattle.pool.proofs.Admitted.{Between, all_answered, at_ask, at_first, past_admitted, past_refused, slate_room, slates_left}
use Rattle.pool.proofs.admitting.admit_all.Goals.{in-Some, in-None}
use Rattle.pool.proofs.admitting.admit_all.Goals as goal

abbrev no_ask : Ask
no_ask = record { limit = 0; quota = 0; least = 0; count = 0 }

pub loop-ask-init : goal.loop-ask-init
loop-ask-init g c = (
  c.args.answers.ok.0 ∙ ap length c.requires.none,
  c.requires.room,
  c.requires.slates,
  at_first g.D.Slot g.T.Opened.opening g.T.Opened.outset.told g.T.Opened.first c.args.asks.now (map numbered c.args.answers.items) (record { trail = c.args.shared.now.trail; counts = c.args.shared.now.counts }) c.args.shared.now.state (ap (map numbered) c.requires.none) c.requires.stands c.requires.spare,
  refl,
)

pub unwrap-slate-requires : goal.unwrap-slate-requires
unwrap-slate-requires g c =
    let some : length (drop c.loop-ask.ask-index c.args.asks.now) ≡ length c.args.asks.now - c.loop-ask.ask-index = length-drop c.loop-ask.ask-index c.args.asks.now in
    let count = c.loop-ask.invariant.2.count in
    let len = c.loop-ask.slates.ok.0 in
    let less = c.loop-ask-test.true in
    c.pop.ensures.variant.1 (omega (arith, some, count, len, less))

pub admit_ask-requires-clause-room : goal.admit_ask-requires-clause-room
admit_ask-requires-clause-room g c =
    let asks : List Ask = c.args.asks.now in
    let i : ℕ = c.loop-ask.ask-index in
    let ask : Ask = get_or asks i no_ask in
    let is : drop i asks ≡ ask ∷ drop (i + 1) asks = at_ask asks i no_ask c.loop-ask-test.true in
    let none : first_refusal ask.count ask (left_in (state_of c.loop-ask.shared.state)) ≡ None = ap (first_refusal ask.count ask) (sym c.left_of.ensures) ∙ sym c.refusal_of.ensures ∙ c.in-None.is in
    let few = few_granted ask.count ask (left_in (state_of c.loop-ask.shared.state)) none in
    let most = at_most (state_of c.loop-ask.shared.state).sessions 240 in
    (slate_room ask (drop (i + 1) asks) c.loop-ask.slates.items c.pop.new.self.items c.pop.result (subst (λ (l : List Ask). AreSlates l c.loop-ask.slates.items) is c.loop-ask.invariant.2) c.pop.ensures.items
    c.unwrap-slate.result c.unwrap-slate.ensures (omega (arith, few, most))).1

pub loop-ask-preserved : goal.loop-ask-preserved
loop-ask-preserved g c =
    let asks : List Ask = c.args.asks.now in
    let i : ℕ = c.loop-ask.ask-index in
    let ask : Ask = get_or asks i no_ask in
    let todo : List Ask = drop (i + 1) asks in
    let is : drop i asks ≡ ask ∷ todo = at_ask asks i no_ask c.loop-ask-test.true in
    let slates : AreSlates todo c.pop.new.self.items =
    slates_left ask todo c.loop-ask.slates.items c.pop.new.self.items c.pop.result (subst (λ (l : List Ask). AreSlates l c.loop-ask.slates.items) is c.loop-ask.invariant.2) c.pop.ensures.items
    c.unwrap-slate.result c.unwrap-slate.ensures in
    let was : Between g.D.Slot g.T.Opened.opening g.T.Opened.outset.told g.T.Opened.first asks (ask ∷ todo) (record { trail = c.args.shared.now.trail; counts = c.args.shared.now.counts }) c.args.shared.now.state (map numbered c.loop-ask.answers.items) (record { trail = c.loop-ask.shared.trail; counts = c.loop-ask.shared.counts }) c.loop-ask.shared.state =
    subst (λ (l : List Ask). Between g.D.Slot g.T.Opened.opening g.T.Opened.outset.told g.T.Opened.first asks l (record { trail = c.args.shared.now.trail; counts = c.args.shared.now.counts }) c.args.shared.now.state (map numbered c.loop-ask.answers.items) (record { trail = c.loop-ask.shared.trail; counts = c.loop-ask.shared.counts }) c.loop-ask.shared.state) is c.loop-ask.invariant.3 in
    let answers : map numbered c.push_reserved.new.self.items ≡ map numbered c.loop-ask.answers.items ++ numbered c.match-refusal_of.answer ∷ [] =
    ap (map numbered) c.push_reserved.ensures.items ∙ map-append numbered c.loop-ask.answers.items (c.match-refusal_of.answer ∷ []) in
    let why : c.refusal_of.result ≡ first_refusal ask.count ask (left_in (state_of c.loop-ask.shared.state)) = c.refusal_of.ensures ∙ ap (first_refusal ask.count ask) c.left_of.ensures in
    let len = c.push_reserved.ensures.len in
    let len_was = c.loop-ask.invariant.0 in
    let cap = c.push_reserved.ensures.capacity in
    let cap_was = c.loop-ask.invariant.1 in (
      omega (arith, len, len_was),
      omega (arith, cap, cap_was),
      slates,
      subst (λ (rs : List (Result (List ℕ) PoolErr)). Between g.D.Slot g.T.Opened.opening g.T.Opened.outset.told g.T.Opened.first asks todo (record { trail = c.args.shared.now.trail; counts = c.args.shared.now.counts }) c.args.shared.now.state rs (record { trail = c.match-refusal_of.shared.trail; counts = c.match-refusal_of.shared.counts }) c.match-refusal_of.shared.state) (sym answers)
          (elim c.match-refusal_of.branch [
            | in-Some w ↦
                subst (λ (s : Shared g.row.D.Denot g.row.T.Denot). Between g.D.Slot g.T.Opened.opening g.T.Opened.outset.told g.T.Opened.first asks todo (record { trail = c.args.shared.now.trail; counts = c.args.shared.now.counts }) c.args.shared.now.state
                (map numbered c.loop-ask.answers.items ++ numbered c.match-refusal_of.answer ∷ []) (record { trail = s.trail; counts = s.counts }) s.state) (sym w.shared-is)
                (past_refused g.D.Slot g.T.Opened.opening g.T.Opened.outset.told g.T.Opened.first asks todo ask (record { trail = c.args.shared.now.trail; counts = c.args.shared.now.counts }) c.args.shared.now.state (map numbered c.loop-ask.answers.items) (record { trail = c.loop-ask.shared.trail; counts = c.loop-ask.shared.counts }) c.loop-ask.shared.state
                was (numbered c.match-refusal_of.answer) w.in-Some.refusal (sym why ∙ w.in-Some.is) (ap numbered w.answer-is))
            | in-None w ↦
                subst (λ (s : Shared g.row.D.Denot g.row.T.Denot). Between g.D.Slot g.T.Opened.opening g.T.Opened.outset.told g.T.Opened.first asks todo (record { trail = c.args.shared.now.trail; counts = c.args.shared.now.counts }) c.args.shared.now.state
                (map numbered c.loop-ask.answers.items ++ numbered c.match-refusal_of.answer ∷ []) (record { trail = s.trail; counts = s.counts }) s.state) (sym w.shared-is)
                (past_admitted g.D.Slot g.T.Opened.opening g.T.Opened.outset.told g.T.Opened.first asks todo ask (record { trail = c.args.shared.now.trail; counts = c.args.shared.now.counts }) c.args.shared.now.state (map numbered c.loop-ask.answers.items) (record { trail = c.loop-ask.shared.trail; counts = c.loop-ask.shared.counts }) c.loop-ask.shared.state
                was (numbered c.match-refusal_of.answer) w.admit_ask.result.items (record { trail = w.admit_ask.new.shared.trail; counts = w.admit_ask.new.shared.counts }) w.admit_ask.new.shared.state (sym why ∙ w.in-None.is) w.admit_ask.ensures.admits (ap numbered w.answer-is))
          ]),
      elim c.match-refusal_of.branch [
        | in-Some w ↦ ap (λ (s : Shared g.row.D.Denot g.row.T.Denot). s.stopped) w.shared-is ∙ c.loop-ask.invariant.4
        | in-None w ↦ ap (λ (s : Shared g.row.D.Denot g.row.T.Denot). s.stopped) w.shared-is ∙ w.admit_ask.ensures.stop ∙ c.loop-ask.invariant.4
      ],
    )

pub returns-clause-admits : goal.returns-clause-admits
returns-clause-admits g c = λ before stood.
    let none : drop c.loop-ask.ask-index c.args.asks.now ≡ [] = drop_all c.loop-ask.ask-index c.args.asks.now c.loop-ask-test.false in
    all_answered g.D.Slot g.T.Opened.opening g.T.Opened.outset.told g.T.Opened.first c.args.asks.now (drop c.loop-ask.ask-index c.args.asks.now) before (map numbered c.loop-ask.answers.items) c.args.shared.now.state (record { trail = c.loop-ask.shared.trail; counts = c.loop-ask.shared.counts }) c.loop-ask.shared.state none
    (c.loop-ask.invariant.3.answering before stood)
