-- Each step keeps the rule, and tells what its play says.
use Rattle.std.proofs.Common.{◌≡◌, ℕ, ◌+◌, ◌<◌, ◌≤◌, ◌≢◌, List, [], ◌∷◌, ◌++◌, length, get_or, set, sym, refl, ap, subst, ◌∙◌, arith, append-nil, length-set, length-append, Bool, true, false, cond, nat_lt, ltb-true, ltb-false, Option, Some}
use mathlib.Core.Option.{none, some}
use mathlib.Core.Logic.{dite}
use native.Mathlib.Decide.{dec_lt}
use lib.ListN.{get_elem?}
use lib.Seq.{set-get_or}
use Rattle.atomic_table.specs.Table.{State, Me}
use Rattle.atomic_table.proofs.Lists.{set_here, set_else, set_again}
use Rattle.turn_table.specs.declared.view.Stage.{Stage}
use Rattle.turn_table.specs.declared.view.Stage.TheVariants.{Idle, Waiting, Turn}
use Rattle.turn_table.specs.declared.view.View.{View}
use Rattle.turn_table.specs.Lists.{same, times, needed, entries, tagged, IsAmong, longer}
use Rattle.turn_table.specs.Knowledge.{first_at, NeedsOnly}
use Rattle.turn_table.specs.Rule.{ticket_at, turn_at, live_at, out_at, InTurn, Party, Knows, Turning}
use Rattle.turn_table.specs.Steps.{waiting, taking, grown, parted, newcomer, joined, spent}
use Rattle.turn_table.proofs.Sums.{total_set, total_kept, total_snoc, total-append, two_of, parts}
use Rattle.turn_table.proofs.Authors.{entries-append, entries-tagged}
use Rattle.turn_table.proofs.Knowing.{all_entries, same_trail, knows_takes, knows_newcomer, knows_joined}
use Rattle.turn_table.proofs.Trails.{longest_set, longest_spent, trails_set, trails_snoc, trails_serve, within}
use Rattle.turn_table.proofs.Counts.{ticket_of, turn_of, live_of, first_of, out_of, right_of, queue_kept, party_kept, housing_kept, queue_draws, queue_serves, none_turns, one_turn, others_rest, out_more, first_more, out_less, first_less, out_all, not_first}

module _ {A : Type 0} where
  -- a list that begins another and is as long is the other
  whole_of : (log front behind : List A) → log ≡ front ++ behind → length log ≤ length front → front ≡ log
  whole_of log front [] e h = sym (e ∙ append-nil front)
  whole_of log front (x ∷ xs) e h = absurd (let l = ap (λ (z : List A). length z) e in let m = length-append front (x ∷ xs) in omega arith)

  longer_at : (b : Bool) (xs ys : List A) → nat_lt (length xs) (length ys) ≡ b → (length xs ≤ length (cond b ys xs)) × (length ys ≤ length (cond b ys xs))
  longer_at true xs ys e = let l = ltb-true (length xs) (length ys) e in (omega arith, omega arith)
  longer_at false xs ys e = let l = ltb-false (length xs) (length ys) e in (omega arith, omega arith)

  longer_lengths : (xs ys : List A) → (length xs ≤ length (longer xs ys)) × (length ys ≤ length (longer xs ys))
  longer_lengths xs ys = longer_at (nat_lt (length xs) (length ys)) xs ys refl

pub live_idle : (stage : Stage) → stage ≡ Idle → live_at stage ≡ 1
live_idle stage e = ap live_at e

module _ {V E : Type 0} (stands : V → List E → Type 0) (needs : E → List ℕ) where
  abbrev Rule : State (Option V) (View E) → Type 0
  Rule = Turning stands needs

  abbrev Seat : Type 0
  Seat = Me (Option V) (View E)

  -- a step that changes a view's stage alone, and no seat has its turn before or after
  module _ {s : State (Option V) (View E)} (rule : Rule s) (id : ℕ) {v : View E} (at : get_elem? s.views id ≡ some v) where
    -- the word that is read and written back
    same_word : (i : ℕ) → set s.words i (get_or s.words i 0) ≡ s.words
    same_word i = set-get_or s.words i 0

    party_stays : (w : View E) → w.role ≡ v.role → live_of w ≡ live_of v → w.rights ≡ v.rights → Party (set s.views id w)
    party_stays w role live rights = party_kept
        (total_kept first_of s.views id v w at (ap first_at (sym role)))
        (total_kept live_of s.views id v w at (sym live))
        (total_kept out_of s.views id v w at (ap out_at (sym role)))
        (λ r. total_kept (right_of r) s.views id v w at (ap (times r) (sym rights)))
        rule.party

    pub draw_hit : (k : ℕ) → v.stage ≡ Idle → k ≡ rule.ticket + 1 → k < 18446744073709551616
        → Rule record { words = set s.words 0 k; homes = s.homes; views = set s.views id (waiting rule.ticket v) }
    draw_hit k idle next room =
        let w : View E = waiting rule.ticket v in
        let live : live_of v ≡ 1 = live_idle v.stage idle in
        record {
          written = rule.written;
          ticket = rule.ticket + 1;
          serving = rule.serving;
          words = ap (λ (z : List ℕ). set z 0 k) rule.words ∙ ap (λ (n : ℕ). n ∷ rule.serving ∷ []) next;
          queue = queue_draws rule.queue id at w idle refl (omega arith);
          party = party_stays w refl (sym live) refl;
          housing = housing_kept (total_kept turn_of s.views id v w at (ap turn_at idle)) rule.housing;
          trails = trails_set rule.trails id w (λ _. same_trail needs (rule.trails.each id v at live) v.role (Waiting rule.ticket) v.rights (λ r h. h) tt)
              (longest_set s.views id v w (entries rule.written) at refl (λ e. e) rule.trails.longest);
        }

    -- nothing changes
    pub unmoved : (i : ℕ) → Rule record { words = set s.words i (get_or s.words i 0); homes = s.homes; views = set s.views id v }
    unmoved i = subst (λ (z : List ℕ). Rule record { words = z; homes = s.homes; views = set s.views id v }) (sym (same_word i))
        (subst (λ (z : List (View E)). Rule record { words = s.words; homes = s.homes; views = z }) (sym (set_again s.views id v at)) rule)

    pub look_hit : (k : ℕ) → v.stage ≡ Waiting rule.serving → k ≡ rule.serving
        → Rule record { words = set s.words 1 k; homes = set s.homes 0 none; views = set s.views id (taking rule.serving (entries rule.written) v) }
    look_hit k waits same_number =
        let log = entries rule.written in
        let w : View E = taking rule.serving log v in
        let live : live_of v ≡ 1 = ap live_at waits in
        let known = rule.trails.each id v at live in
        let z = none_turns rule.queue rule.trails id at waits in
        let h = rule.housing.home z in
        let before : turn_of v ≡ 0 = ap turn_at waits in
        let sum = total_set turn_of s.views id v w at in
        record {
          written = rule.written;
          ticket = rule.ticket;
          serving = rule.serving;
          words = ap (λ (l : List ℕ). set l 1 k) rule.words ∙ ap (λ (n : ℕ). rule.ticket ∷ n ∷ []) same_number;
          queue = queue_kept (λ t. total_kept (ticket_of t) s.views id v w at (ap (ticket_at t) waits)) rule.queue;
          party = party_stays w refl (sym live) refl;
          housing = record {
            home = λ none_now. absurd (omega arith);
            away = λ _. ap (λ (l : List (mathlib.Core.Option.Option (Option V))). set l 0 none) h.1;
          };
          trails = trails_set rule.trails id w (λ _. knows_takes needs known)
              (longest_set s.views id v w log at refl (λ _. refl) rule.trails.longest);
        }

    pub serve_keeps : (k : ℕ) (new : List E) (x : V) → v.stage ≡ Turn rule.serving → k ≡ rule.serving + 1 → stands x (v.seen ++ new) → NeedsOnly needs v.rights new
        → Rule record { words = set s.words 1 k; homes = set s.homes 0 (some (Some x)); views = set s.views id (grown new v) }
    serve_keeps k new x turn next stood only =
        let w : View E = grown new v in
        let live : live_of v ≡ 1 = ap live_at turn in
        let known = rule.trails.each id v at live in
        let fits : InTurn rule.serving known.behind (Turn rule.serving) = subst (InTurn rule.serving known.behind) turn known.in_turn in
        let one = one_turn rule.queue rule.trails id at turn in
        let before : turn_of v ≡ 1 = ap turn_at turn in
        let sum = total_set turn_of s.views id v w at in
        let away = rule.housing.away (omega arith) in
        let log : v.seen ≡ entries rule.written = sym (all_entries needs known ∙ ap (λ (z : List (ℕ × E)). v.seen ++ entries z) fits.1 ∙ append-nil v.seen) in
        let log_new : v.seen ++ new ≡ entries (rule.written ++ tagged id new) = ap (λ (z : List E). z ++ new) log ∙ sym (entries-append rule.written (tagged id new) ∙ ap (λ (z : List E). entries rule.written ++ z) (entries-tagged id new)) in
        record {
          written = rule.written ++ tagged id new;
          ticket = rule.ticket;
          serving = rule.serving + 1;
          words = ap (λ (l : List ℕ). set l 1 k) rule.words ∙ ap (λ (n : ℕ). rule.ticket ∷ n ∷ []) next;
          queue = queue_serves rule.queue id at w turn refl;
          party = party_stays w refl (sym live) refl;
          housing = record {
            home = λ _. (x, ap (λ (l : List (mathlib.Core.Option.Option (Option V))). set l 0 (some (Some x))) away, subst (stands x) log_new stood);
            away = λ some_turn. absurd (omega arith);
          };
          trails = trails_serve rule.trails id (rule.serving + 1) v new at live fits.1
              (λ j u there other. (
                others_rest rule.queue rule.trails id at turn j u there other,
                λ r mine. dite (dec_lt 0 (needed needs r new))
                    (λ yes. let two = two_of (right_of r) s.views id j v u (λ e. other (sym e)) at there in let most = rule.party.apart r in let mine_too = only r yes in absurd (omega arith))
                    (λ no. omega arith),
              ));
        }

    pub split_keeps : (right : Option ℕ) → v.stage ≡ Idle → first_of v ≡ 1 → IsAmong right v.rights
        → Rule record { words = s.words; homes = s.homes; views = set s.views id (parted right v) ++ newcomer right v ∷ [] }
    split_keeps right idle first among =
        let w : View E = parted right v in
        let u : View E = newcomer right v in
        let live : live_of v ≡ 1 = live_idle v.stage idle in
        let known = rule.trails.each id v at live in
        let long = length-set s.views id w in
        let set_sum = λ (f : View E → ℕ). total_set f s.views id v w at in
        let snoc_sum = λ (f : View E → ℕ). total_snoc f (set s.views id w) u in
        let p = rule.party in
        record {
          written = rule.written;
          ticket = rule.ticket;
          serving = rule.serving;
          words = rule.words;
          queue = queue_kept (λ t. let a = set_sum (ticket_of t) in let b = snoc_sum (ticket_of t) in omega arith) rule.queue;
          party = record {
            one_first = let a = set_sum first_of in let b = snoc_sum first_of in let same_role = first_more v.role in let o = p.one_first in omega arith;
            others = let a = set_sum live_of in let b = snoc_sum live_of in let c = set_sum out_of in let d = snoc_sum out_of in let more = out_more v.role first in let o = p.others in omega arith;
            apart = λ r. let a = set_sum (right_of r) in let b = snoc_sum (right_of r) in let e = parts right v.rights among r in let o = p.apart r in omega arith;
          };
          housing = housing_kept (let a = set_sum turn_of in let b = snoc_sum turn_of in omega arith) rule.housing;
          trails = trails_snoc
              (trails_set rule.trails id w (λ _. same_trail needs known w.role v.stage w.rights (λ r h. let e = parts right v.rights among r in omega arith) known.in_turn)
              (longest_set s.views id v w (entries rule.written) at live (λ e. e) rule.trails.longest))
              u
              (subst (λ (n : ℕ). Knows needs n rule.written rule.serving u) (sym long) (knows_newcomer needs known (length s.views) right (rule.trails.unseated (length s.views) (omega arith)) among));
        }

    pub join_keeps : (j : ℕ) (u : View E) → v.stage ≡ Idle → first_of v ≡ 1 → u.stage ≡ Idle → j ≢ id → get_elem? (set s.views id (joined v u)) j ≡ some u
        → Rule record { words = s.words; homes = s.homes; views = set (set s.views id (joined v u)) j spent }
    join_keeps j u idle first idle_too other there_after =
        let w : View E = joined v u in
        let there = sym (set_else s.views id j w other) ∙ there_after in
        let live : live_of v ≡ 1 = live_idle v.stage idle in
        let live_too : live_of u ≡ 1 = live_idle u.stage idle_too in
        let known = rule.trails.each id v at live in
        let known_too = rule.trails.each j u there live_too in
        let one = λ (f : View E → ℕ). total_set f s.views id v w at in
        let two = λ (f : View E → ℕ). total_set f (set s.views id w) j u spent there_after in
        let p = rule.party in
        let not_this = not_first p id at first j u there other in
        let all_out = out_all p id at first in
        let lives = two_of live_of s.views id j v u (λ e. other (sym e)) at there in
        let others = p.others in
        let old : turn_of v ≡ 0 = ap turn_at idle in
        let old_too : turn_of u ≡ 0 = ap turn_at idle_too in
        let known_now = knows_joined needs known known_too idle in
        let at_joined = set_here s.views id w (within s.views id v at) in
        let more = longer_lengths v.seen u.seen in
        let whole : v.seen ≡ entries rule.written → longer v.seen u.seen ≡ entries rule.written = λ e. whole_of (entries rule.written) (longer v.seen u.seen) (entries known_now.behind) (all_entries needs known_now) (let l = ap (λ (z : List E). length z) e in omega arith) in
        let whole_too : u.seen ≡ entries rule.written → longer v.seen u.seen ≡ entries rule.written = λ e. whole_of (entries rule.written) (longer v.seen u.seen) (entries known_now.behind) (all_entries needs known_now) (let l = ap (λ (z : List E). length z) e in omega arith) in
        let first_trails = trails_set rule.trails id w (λ _. known_now) (longest_set s.views id v w (entries rule.written) at live whole rule.trails.longest) in
        record {
          written = rule.written;
          ticket = rule.ticket;
          serving = rule.serving;
          words = rule.words;
          queue = queue_kept (λ t. let a = one (ticket_of t) in let b = two (ticket_of t) in let c : ticket_of t u ≡ 0 = ap (ticket_at t) idle_too in omega arith) rule.queue;
          party = record {
            one_first = let a = one first_of in let b = two first_of in let c = not_this.0 in let same_role = first_less v.role in let o = p.one_first in omega arith;
            others = let a = one live_of in let b = two live_of in let c = one out_of in let d = two out_of in let none_of_it = not_this.1 in let less = out_less v.role in omega arith;
            apart = λ r. let a = one (right_of r) in let b = two (right_of r) in let both = total-append (same r) v.rights u.rights in let o = p.apart r in omega arith;
          };
          housing = housing_kept (let a = one turn_of in let b = two turn_of in omega arith) rule.housing;
          trails = trails_set first_trails j spent (λ alive. absurd (omega arith)) (longest_spent (set s.views id w) id j w u (entries rule.written) at_joined there_after (λ e. other (sym e)) live whole_too first_trails.longest);
        }
