-- Sessions came together in one turn of the pass: what the pass keeps true, and what it has seen.
use Rattle.std.proofs.Common.{◌≡◌, ℕ, ◌+◌, ◌<◌, eqb, Bool, List, ◌++◌, length, map, Result, sym, ap, ◌∙◌, subst, arith}
use Rattle.std.proofs.Math.Seq.{drop-append_seam}
use Rattle.std.specs.FinMap.{get, len}
use Rattle.std.specs.List.{IsDistinct}
use Rattle.atomic_table.specs.Seated.{TableId}
use Rattle.reservation_tree.specs.declared.errors.PoolErr.{PoolErr}
use Rattle.reservation_tree.specs.Total.{total}
use Rattle.pool_model.specs.declared.entry.Entry.{Entry}
use Rattle.pool_model.specs.State.{Opening}
use Rattle.turn_table.specs.declared.view.Role.TheVariants.{First}
use Rattle.turn_table.specs.declared.view.View.{View}
use Rattle.turn_table.specs.Lists.{times}
use Rattle.turn_table.specs.Knowledge.{GrewBeside, IsFirst, IsIdle, NeedsOnly, first_at}
use Rattle.turn_table.specs.Steps.{grown, taking}
use Rattle.turn_table.specs.Face.{Spot}
use Rattle.pool.specs.declared.ask.Ask.{Ask}
use Rattle.pool.specs.declared.left.Left.{Left}
use Rattle.pool.specs.declared.item.Item.{Item}
use Rattle.pool.specs.Items.{door, history, needs_of}
use Rattle.pool.specs.Seats.{Quotas, live_in, quotas_in, taken_in}
use Rattle.pool.specs.Passing.{IsPass, writers_out}
use Rattle.pool.specs.Seating.{state_in}
use Rattle.pool.specs.Remaining.{left_in, refusals}
use Rattle.pool.specs.Asking.{Admits, Answers, AreAnswered, all_numbers, numbers_in, refusal_in}
use Rattle.pool.specs.Admitting.{item_of, items_since}
use Rattle.pool.specs.Parting.{AllComing, AreSeats, CanHand, handed_out}
use Rattle.pool.proofs.Answered.{Adds, LetsIn, answered_adds, answered_hand, answered_live}
use Rattle.pool.proofs.Apart.{answered_apart}
use Rattle.pool.proofs.Beside.{quotas_beside}
use Rattle.pool.proofs.Listed.{history_more}
use Rattle.pool.proofs.Out.{out_are, out_role}
use Rattle.pool.proofs.Parted.{handed_idle, handed_role, handed_seen}
use Rattle.pool.proofs.Sessions.{all_new, count_is, numbers_are, refused_alike, refused_is, taken_is}

-- what came behind the items
pub since_is : (seen more : List Item) (trail : List Entry) → trail ≡ history (seen ++ more) → map item_of (history more) ≡ more → items_since seen trail ≡ more
since_is seen more trail is back =
    ap (items_since seen) (is ∙ history_more seen more) ∙ ap (map item_of) (drop-append_seam (history seen) (history more)) ∙ back

module _ (o : Opening) {free ticket : ℕ} {pass : Spot Item} {now : View Item} (is : IsPass o.slots free pass)
    (takes : now ≡ taking ticket now.seen pass.knows) (grew : GrewBeside needs_of pass.knows.rights pass.knows.seen now.seen) where
  quotas_here : quotas_in now.seen ≡ quotas_in pass.knows.seen
  quotas_here = quotas_beside pass.knows.rights pass.knows.seen now.seen grew is.opens

  rights_here : now.rights ≡ pass.knows.rights
  rights_here = ap (λ (v : View Item). v.rights) takes

  abbrev writers : ℕ
  writers = writers_out pass

  role_here : now.role ≡ First (live_in now.seen + writers)
  role_here = ap (λ (v : View Item). v.role) takes ∙ is.role ∙ ap (λ (q : Quotas). First (len q + writers)) (sym quotas_here)

  taken_here : taken_in now.seen ≡ taken_in pass.knows.seen
  taken_here = ap (λ (q : Quotas). total (λ m quota. quota) q) quotas_here

  pub live_here : live_in now.seen ≡ live_in pass.knows.seen
  live_here = ap (λ (q : Quotas). len q) quotas_here

  pub lets_in : LetsIn now.seen now.rights
  lets_in = record {
    opens = subst (λ (rights : List ℕ). 0 < times door rights) (sym rights_here) is.opens;
    numbers = λ m low none. subst (λ (rights : List ℕ). 0 < times m rights) (sym rights_here) (is.numbers m low (sym (ap (λ (q : Quotas). get q m) quotas_here) ∙ none));
  }

  module _ (asks : List Ask) (left : Left) (answers : List (Result (List ℕ) PoolErr)) (after : List Item) (are : AreAnswered asks left now.seen answers after) (trail : List Entry) (stood : trail ≡ history after) where
    pub adds : Adds now.seen after
    adds = answered_adds asks left now.seen answers after are

    pub more_is : items_since now.seen trail ≡ adds.more
    more_is = since_is now.seen adds.more trail (stood ∙ ap history adds.is) adds.back

    pub all_is : now.seen ++ items_since now.seen trail ≡ after
    all_is = ap (λ (items : List Item). now.seen ++ items) more_is ∙ sym adds.is

    pub only_needs : NeedsOnly needs_of now.rights (items_since now.seen trail)
    only_needs = subst (NeedsOnly needs_of now.rights) (sym more_is) (adds.needs now.rights lets_in)

    module _ (gone : Spot Item) (grows : gone.knows ≡ grown (items_since now.seen trail) now) where
      pub seen_gone : gone.knows.seen ≡ after
      seen_gone = ap (λ (v : View Item). v.seen) grows ∙ all_is

      rights_gone : gone.knows.rights ≡ now.rights
      rights_gone = ap (λ (v : View Item). v.rights) grows

      role_gone : gone.knows.role ≡ First (live_in now.seen + writers)
      role_gone = ap (λ (v : View Item). v.role) grows ∙ role_here

      pub first_gone : IsIdle gone.knows × IsFirst gone.knows
      first_gone = (ap (λ (v : View Item). v.stage) grows, ap first_at role_gone)

      hands : CanHand (all_numbers answers) gone.knows.rights × LetsIn after (handed_out (all_numbers answers) gone.knows).rights
      hands = answered_hand asks left now.seen answers after gone.knows are (subst (λ (rights : List ℕ). LetsIn now.seen rights) (sym rights_gone) lets_in)

      pub can_hand : CanHand (all_numbers answers) gone.knows.rights
      can_hand = hands.0

      module _ (new : Spot Item) (parts : new.knows ≡ handed_out (all_numbers answers) gone.knows) where
        pub seen_new : new.knows.seen ≡ gone.knows.seen
        seen_new = ap (λ (v : View Item). v.seen) parts ∙ handed_seen (all_numbers answers) gone.knows

        seen_all : new.knows.seen ≡ after
        seen_all = seen_new ∙ seen_gone

        live_all : live_in after ≡ live_in now.seen + length (all_numbers answers)
        live_all = answered_live asks left now.seen answers after are

        lets_new : LetsIn new.knows.seen new.knows.rights
        lets_new = subst (λ (v : View Item). LetsIn new.knows.seen v.rights) (sym parts) (subst (λ (items : List Item). LetsIn items (handed_out (all_numbers answers) gone.knows).rights) (sym seen_all) hands.1)

        role_new : new.knows.role ≡ First (live_in new.knows.seen + writers)
        role_new =
            let came : (live_in now.seen + writers) + length (all_numbers answers) ≡ live_in new.knows.seen + writers =
            let all = live_all in let same : live_in new.knows.seen ≡ live_in after = ap live_in seen_all in omega (arith, all, same) in
            ap (λ (v : View Item). v.role) parts ∙ handed_role (all_numbers answers) gone.knows (live_in now.seen + writers) role_gone ∙ ap First came

        pub all_pass : (spare : ℕ) → spare + taken_in after ≡ o.slots → IsPass o.slots spare new
        all_pass spare sum = record {
          idle = ap (λ (v : View Item). v.stage) parts ∙ handed_idle (all_numbers answers) gone.knows ∙ first_gone.0;
          role = out_role new writers role_new;
          opens = lets_new.opens;
          numbers = lets_new.numbers;
          spare = let same : taken_in new.knows.seen ≡ taken_in after = ap taken_in seen_all in omega (arith, sum, same);
        }

        pub refused_by : (lock : TableId) (sessions : Answers) → AreSeats lock gone.knows.seen answers sessions → map refusal_in sessions ≡ refusals asks left
        refused_by lock sessions seats =
            refused_alike sessions ∙ ap (map refusal_in) (numbers_are lock gone.knows.seen answers sessions seats) ∙ refused_is asks left now.seen answers after are

        pub admits : (told : Bool) (most : ℕ) (sessions : Answers) → left ≡ left_in (state_in o now.seen) → AllComing o told gone.knows.seen most asks answers → AreSeats new.table gone.knows.seen answers sessions → new.table ≡ pass.table
            → Admits o told asks pass new sessions
        admits told most sessions from come seats table =
            let seen_seats : AreSeats new.table new.knows.seen answers sessions = subst (λ (items : List Item). AreSeats new.table items answers sessions) (sym seen_new) seats in
            let numbers : numbers_in sessions ≡ answers = numbers_are new.table new.knows.seen answers sessions seen_seats in
            let its : AreAnswered asks (left_in (state_in o now.seen)) now.seen answers after = subst (λ (l : Left). AreAnswered asks l now.seen answers after) from are in
            record {
              entered = now.seen;
              grew = grew;
              answered =
                  subst (λ (items : List Item). AreAnswered asks (left_in (state_in o now.seen)) now.seen (numbers_in sessions) items) (sym seen_all)
                  (subst (λ (rs : List (Result (List ℕ) PoolErr)). AreAnswered asks (left_in (state_in o now.seen)) now.seen rs after) (sym numbers) its);
              refused = refused_alike sessions ∙ ap (map refusal_in) numbers ∙ refused_is asks (left_in (state_in o now.seen)) now.seen answers after its;
              sessions = all_new o told new most asks answers sessions (subst (λ (items : List Item). AllComing o told items most asks answers) (sym seen_new) come) seen_seats;
              apart = subst (λ (rs : List (Result (List ℕ) PoolErr)). IsDistinct eqb (all_numbers rs)) (sym numbers) (answered_apart asks left now.seen answers after are).distinct;
              table = table;
              taken =
                  let all = taken_is new.table new.knows.seen asks left now.seen answers after sessions are seen_seats in
                  let same : taken_in new.knows.seen ≡ taken_in after = ap taken_in seen_all in
                  let here = taken_here in
                  omega (arith, all, same, here);
              count =
                  let all = live_all in
                  let count = count_is new.table new.knows.seen answers sessions seen_seats in
                  let same : live_in new.knows.seen ≡ live_in after = ap live_in seen_all in
                  let here = live_here in
                  omega (arith, all, count, same, here);
              writers = out_are new writers role_new;
            }
