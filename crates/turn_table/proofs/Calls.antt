-- What the calls of the table ask of each step.
use Rattle.std.proofs.Common.{◌≡◌, ℕ, zero, suc, ◌+◌, ◌%◌, ◌^◌, ◌<◌, ◌≤◌, List, [], ◌∷◌, ◌++◌, get_or, set, eqb, sym, refl, ap, subst, ◌∙◌, arith, eq-eqb, ne_eqb, mod-eq_of_lt, Option, Some}
use mathlib.Core.Option.{none, some, some-injective, some-ne-none}
use mathlib.Core.Logic.{dite}
use native.Mathlib.Decide.{ℕ_discrete}
use lib.ListN.{get_elem?}
use prog.Atomic.{either}
use Rattle.atomic_table.specs.Table.{State, Me, step, keeps, takes, gives, opening, Final, Seen, Allows, Splits, Joins}
use Rattle.turn_table.specs.declared.view.Role.TheVariants.{First}
use Rattle.turn_table.specs.declared.view.Stage.TheVariants.{Idle, Waiting, Turn}
use Rattle.turn_table.specs.declared.view.View.{View}
use Rattle.turn_table.specs.Lists.{times, entries, IsAmong}
use Rattle.turn_table.specs.Knowledge.{first_at, NeedsOnly, GrewBeside}
use Rattle.turn_table.specs.Rule.{ticket_at, turn_at, live_at, out_at, InTurn, Knows, Turning}
use Rattle.turn_table.specs.Steps.{opened, waiting, taking, grown, parted, newcomer, joined, spent, Drew, Looked, Served, Recalled}
use Rattle.turn_table.proofs.Sums.{same_is}
use Rattle.turn_table.proofs.Knowing.{told_nothing, knows_grew, knows_made, knows_serves}
use Rattle.turn_table.proofs.Counts.{first_of, one_served, none_turns, none_out}
use Rattle.turn_table.proofs.Keeps.{live_idle, draw_hit, look_hit, serve_keeps, split_keeps, join_keeps, unmoved}

module _ {V E : Type 0} (stands : V → List E → Type 0) (needs : E → List ℕ) where
  abbrev Rule : State (Option V) (View E) → Type 0
  Rule = Turning stands needs

  pub draws : (slots id : ℕ) (m : Me (Option V) (View E)) (next : ℕ) → m.0.stage ≡ Idle → next + 1 < 18446744073709551616
      → Allows Rule slots id m 0 (λ n. either (eqb n next) (next + 1) n) (Drew (step slots 0 next (next + 1) none) m)
  draws slots id m next idle room s rule long at small =
      let n : ℕ = get_or s.words 0 0 in
      let found : n ≡ rule.ticket = ap (λ (l : List ℕ). get_or l 0 0) rule.words in
      dite (ℕ_discrete n next)
      (λ e.
      let hit : either (eqb n next) (next + 1) n ≡ next + 1 = ap (λ b. either b (next + 1) n) (eq-eqb n next e) in
      let its : rule.ticket ≡ next = sym found ∙ e in (
        waiting rule.ticket m.0,
        keeps,
        tt,
        draw_hit stands needs rule id at (either (eqb n next) (next + 1) n) idle (hit ∙ ap (λ (t : ℕ). t + 1) (sym its)) (omega arith),
        (λ _. ap (λ (t : ℕ). (waiting t m.0, m.1)) its, λ not_found. absurd (not_found e)),
      ))
      (λ ne.
      let miss : either (eqb n next) (next + 1) n ≡ n = ap (λ b. either b (next + 1) n) (ne_eqb n next ne) in (
        m.0,
        keeps,
        tt,
        subst (λ (k : ℕ). Rule record { words = set s.words 0 k; homes = s.homes; views = set s.views id m.0 }) (sym miss) (unmoved stands needs rule id at 0),
        (λ e. absurd (ne e), λ _. refl),
      ))

  pub looks : (slots id : ℕ) (m : Me (Option V) (View E)) (ticket : ℕ) → m.0.stage ≡ Waiting ticket → Allows Rule slots id m 1 (λ n. n) (Looked stands needs m)
  looks slots id m ticket waits s rule long at small =
      let n : ℕ = get_or s.words 1 0 in
      let found : n ≡ rule.serving = ap (λ (l : List ℕ). get_or l 1 0) rule.words in
      let live : live_at m.0.stage ≡ 1 = ap live_at waits in
      let known = rule.trails.each id m.0 at live in
      let its : (t : ℕ) → m.0.stage ≡ Waiting t → t ≡ ticket = λ t e. let w : Waiting t ≡ Waiting ticket = sym e ∙ waits in cc in
      dite (ℕ_discrete n ticket)
      (λ e.
      let now : m.0.stage ≡ Waiting rule.serving = waits ∙ ap Waiting (sym e ∙ found) in
      let h = rule.housing.home (none_turns rule.queue rule.trails id at now) in (
        taking rule.serving (entries rule.written) m.0,
        takes 0 (Some h.0),
        ap (λ (l : List (mathlib.Core.Option.Option (Option V))). get_elem? l 0) h.1,
        look_hit stands needs rule id at n now found,
        λ t stage empty. (
          λ _. record {
            value = h.0;
            holds = ap (λ (l : List (ℕ × Option V)). (0, Some h.0) ∷ l) empty;
            knows = ap (λ (k : ℕ). taking k (entries rule.written) m.0) (sym found ∙ e ∙ sym (its t stage));
            grew = knows_grew needs known;
            made = knows_made needs known;
            stood = h.2;
          },
          λ not_found. absurd (not_found (e ∙ sym (its t stage))),
        ),
      ))
      (λ ne. (m.0, keeps, tt, unmoved stands needs rule id at 1, λ t stage empty. (λ e. absurd (ne (e ∙ its t stage)), λ _. refl)))

  serves_at : (slots id : ℕ) (v : View E) (new : List E) (x : V) (ticket : ℕ) → v.stage ≡ Turn ticket → stands x (v.seen ++ new) → NeedsOnly needs v.rights new
      → Allows Rule slots id (v, (0, Some x) ∷ []) 1 (λ n. (n + 1) % 2 ^ 64) (λ _. Served new (v, (0, Some x) ∷ []))
  serves_at slots id v new x ticket turn stood only s rule long at small =
      let n : ℕ = get_or s.words 1 0 in
      let found : n ≡ rule.serving = ap (λ (l : List ℕ). get_or l 1 0) rule.words in
      let live : live_at v.stage ≡ 1 = ap live_at turn in
      let known = rule.trails.each id v at live in
      let fits : InTurn rule.serving known.behind (Turn ticket) = subst (InTurn rule.serving known.behind) turn known.in_turn in
      let now : v.stage ≡ Turn rule.serving = turn ∙ ap Turn fits.0 in
      let one = one_served rule.queue id at (ap (ticket_at rule.serving) now ∙ same_is rule.serving rule.serving refl) in
      let below = one.0 in
      let top = rule.queue.fits in
      let next : (n + 1) % 2 ^ 64 ≡ rule.serving + 1 = mod-eq_of_lt (omega arith) ∙ ap (λ (k : ℕ). k + 1) found in
      let after = knows_serves needs known new (rule.serving + 1) fits.1 in
      (grown new v, gives, tt, serve_keeps stands needs rule id at ((n + 1) % 2 ^ 64) new x now next stood only, (refl, (id, after.front, after.seen, after.made)))

  pub serves : (slots id : ℕ) (m : Me (Option V) (View E)) (new : List E) (x : V) (ticket : ℕ) → m.0.stage ≡ Turn ticket → m.1 ≡ (0, Some x) ∷ [] → stands x (m.0.seen ++ new) → NeedsOnly needs m.0.rights new
      → Allows Rule slots id m 1 (λ n. (n + 1) % 2 ^ 64) (λ _. Served new m)
  serves slots id m new x ticket turn holds stood only =
      subst (λ (c : List (ℕ × Option V)). Allows Rule slots id (m.0, c) 1 (λ n. (n + 1) % 2 ^ 64) (λ _. Served new (m.0, c))) (sym holds) (serves_at slots id m.0 new x ticket turn stood only)

  pub recalls : (slots id : ℕ) (m : Me (Option V) (View E)) → m.0.stage ≡ Idle → Allows Rule slots id m 1 (λ n. n) (λ _. Recalled needs m)
  recalls slots id m idle s rule long at small = (m.0, keeps, tt, unmoved stands needs rule id at 1, (refl, (rule.trails.each id m.0 at (live_idle m.0.stage idle)).told))

  pub splits : (id : ℕ) (v : View E) (right : Option ℕ) → v.stage ≡ Idle → first_of v ≡ 1 → IsAmong right v.rights → Splits Rule id v (parted right v) (newcomer right v)
  splits id v right idle first among s rule at = split_keeps stands needs rule id at right idle first among

  pub joins : (id other : ℕ) (v w : View E) → v.stage ≡ Idle → first_of v ≡ 1 → w.stage ≡ Idle → Joins Rule id v other w (joined v w) spent
  joins id other v w idle first idle_too s rule at apart there = join_keeps stands needs rule id at other w idle first idle_too apart there

  knows_opened : (rights : List ℕ) (j : ℕ) (v : View E) → get_elem? (opened rights ∷ []) j ≡ some v → Knows needs j [] 0 v
  knows_opened rights zero v there = subst (λ (u : View E). Knows needs zero [] 0 u) (some-injective (opened rights) v there)
      record { front = []; behind = []; whole = refl; seen = refl; made = refl; not_made = refl; beside = λ r h. refl; in_turn = tt; told = told_nothing needs [] }
  knows_opened rights (suc j) v there = absurd (some-ne-none v (sym there))

  pub opens : (x : V) (rights : List ℕ) → stands x [] → ((r : ℕ) → times r rights ≤ 1) → Rule (opening (0 ∷ 0 ∷ []) (Some x ∷ []) (opened rights))
  opens x rights stood once = record {
    written = [];
    ticket = 0;
    serving = 0;
    words = refl;
    queue = record {
      order = omega arith;
      fits = omega arith;
      drawn = λ t low high. absurd (omega arith);
      served = λ t low. absurd (omega arith);
      undrawn = λ t high. refl;
    };
    party = record { one_first = refl; others = refl; apart = λ r. let o = once r in omega arith };
    housing = record { home = λ _. (x, refl, stood); away = λ turn. absurd (omega arith) };
    trails = record {
      each = λ j v there live. knows_opened rights j v there;
      longest = (0, opened rights, refl, refl, refl);
      unseated = λ j far. refl;
    };
  }

  -- with no seat out, the value is at home, and stands for a list that grew beside the seat
  pub closes : (id : ℕ) (v : View E) (ws : List ℕ) (xs : List (Option V)) → v.role ≡ First 0 → v.stage ≡ Idle → Final (Seen Rule id v) ws xs
      → (x : V) × (log : List E) × (get_elem? xs 0 ≡ some (Some x)) × GrewBeside needs v.rights v.seen log × stands x log
  closes id v ws xs alone idle (s, (rule, at), words, long, values) =
      let live = live_idle v.stage idle in
      let z = none_out rule.party id at (ap first_at alone) (ap out_at alone) live in
      let h = rule.housing.home (z ∙ ap turn_at idle) in
      (h.0, entries rule.written, values 0 (Some h.0) (ap (λ (l : List (mathlib.Core.Option.Option (Option V))). get_elem? l 0) h.1), knows_grew needs (rule.trails.each id v at live), h.2)
