-- Rows are dealt to streams, one lot after the other, and calls on other things of the store come in between.
use Rattle.std.proofs.Common.{◌≡◌, ◌∙◌, ℕ, ◌+◌, List, [], ◌∷◌, ◌++◌, map, Option, None, refl, ap, sym, subst, inl, inr, arith, append-nil, append_assoc}
use Rattle.std.specs.Prelude.{All}
use Rattle.std.specs.List.{sum_by}
use Rattle.std.proofs.lemmas.List.Elements.{All-append, All-cons, All-head, All-nil, All-tail}
use Rattle.std.proofs.lemmas.List.Sums.{sum_by-append}
use Rattle.pool_model.specs.LookingBack.{name_in}
use Rattle.pool_model.specs.declared.event.Event.{Event}
use Rattle.pool_model.specs.declared.event.Event.TheVariants.{Ask, Alloc, Free, StartWrite, WriteOk, WriteFailed, Evict, Refused, Increase}
use Rattle.store_api.specs.Holdings.{Holdings, LivePage, no_page, or_else}
use Rattle.store_api.specs.Signs.{Signs}
use Rattle.store_api.specs.Tokens.{PageToken}
use Rattle.tuple_stream.specs.Streamed.{Streamed}
use Rattle.tuple_stream.specs.Trails.{EnteredEvents, IsBuilding, Left, all_left, creates_in, left_by, resting_in}
use Rattle.tuple_stream.specs.Families.{AreShaped, Family, LaysAll, ShowAll, family, weight}
use Rattle.tuple_stream.specs.FamilyCalls.{AllAtEnd, AreSure, FeedsAll, HaveLaid}
use Rattle.tuple_stream.proofs.BuildingQuiet.{left_join}
use Rattle.tuple_stream.proofs.FamilyWords.{shown_as}
use Rattle.tuple_stream.proofs.Sinces.{since_joined}
use Rattle.bucket_table.specs.Entering.{IsOfLoans}
use Rattle.partition_stack.proofs.Agreeing.{agreeing_rows}
use Rattle.group_op.specs.Putting.{Deals}

-- events that build, and make and leave no page
pub record AreApart (events : List Event) : Type 0 where
  pub building : All IsBuilding events
  pub none : all_left events ≡ []
  pub creates : creates_in events ≡ 0

-- such events of a reservation, and of loans
pub increase_apart : (t bytes : ℕ) (events : List Event) → events ≡ Increase t bytes ∷ [] → AreApart events
increase_apart t bytes events is = subst AreApart (sym is) (record { building = All-cons IsBuilding (Increase t bytes) [] tt (All-nil IsBuilding); none = refl; creates = refl })

pub none_apart : (events : List Event) → events ≡ [] → AreApart events
none_apart events is = subst AreApart (sym is) (record { building = All-nil IsBuilding; none = refl; creates = refl })

more_apart : (e : Event) (rest : List Event) → IsBuilding e → left_by e ≡ None → name_in e ≡ None → AreApart rest → AreApart (e ∷ rest)
more_apart e rest building left unnamed apart =
    record { building = All-cons IsBuilding e rest building apart.building; none = filter_map-none e rest left apart.none; creates = names-none e rest unnamed apart.creates }
  where
    filter_map-none : (e : Event) (rest : List Event) → left_by e ≡ None → all_left rest ≡ [] → all_left (e ∷ rest) ≡ []
    filter_map-none e rest left none = rw left none

    names-none : (e : Event) (rest : List Event) → name_in e ≡ None → creates_in rest ≡ 0 → creates_in (e ∷ rest) ≡ 0
    names-none e rest unnamed none = rw unnamed none

loan_apart : (e : Event) (rest : List Event) → IsOfLoans e → AreApart rest → AreApart (e ∷ rest)
loan_apart Ask rest is apart = more_apart Ask rest tt refl refl apart
loan_apart (Alloc f client blocks) rest is apart = more_apart (Alloc f client blocks) rest tt refl refl apart
loan_apart (Free f) rest is apart = more_apart (Free f) rest tt refl refl apart
loan_apart (StartWrite p) rest is apart = more_apart (StartWrite p) rest tt refl refl apart
loan_apart (WriteOk p) rest is apart = more_apart (WriteOk p) rest tt refl refl apart
loan_apart (WriteFailed p before after) rest is apart = more_apart (WriteFailed p before after) rest tt refl refl apart
loan_apart (Evict p) rest is apart = more_apart (Evict p) rest tt refl refl apart
loan_apart (Refused call entry) rest is apart = more_apart (Refused call entry) rest tt refl refl apart
loan_apart _ rest is apart = absurd is

pub loans_apart : (events : List Event) → All IsOfLoans events → AreApart events
loans_apart [] are = record { building = All-nil IsBuilding; none = refl; creates = refl }
loans_apart (e ∷ rest) are = loan_apart e rest (All-head IsOfLoans e rest are) (loans_apart rest (All-tail IsOfLoans e rest are))

laid_on : (f g : Family) → AllAtEnd f → (first next : List Event) → HaveLaid f first → LaysAll (AllAtEnd f) ⊥ f g next → HaveLaid g (first ++ next)
laid_on f g ends first next was lays =
    record {
      building = All-append IsBuilding first next was.building (lays.building ends);
      left = λ w.
          let before = was.left w in
          let more = lays.left ends w in
          let both : sum_by w (all_left (first ++ next)) ≡ sum_by w (all_left first) + sum_by w (all_left next) = ap (sum_by w) (left_join first next) ∙ sum_by-append w (all_left first) (all_left next) in
          omega (arith, before, more, both);
    }

pub deals_fed : (t : ℕ) (fed : ℕ → List (List ℕ)) (f g : Family) → FeedsAll t fed f g → Deals fed f g
deals_fed t fed f g feeds =
    record {
      told = feeds.steps.touches.told;
      at_end = feeds.at_end;
      whole = feeds.whole;
      rows = feeds.rows;
      laid = λ start ends was. since_joined (HaveLaid f) (LaysAll (AllAtEnd f) ⊥ f g) (HaveLaid g) start f.signs.trail g.signs.trail (laid_on f g ends) was feeds.steps.trail;
    }

pub sure_dealt : (fed : ℕ → List (List ℕ)) (f g : Family) → Deals fed f g → AreSure f → AreSure g
sure_dealt fed f g deals sure = elim sure [ inl tells ↦ inl (deals.told ∙ tells) | inr all ↦ inr (deals.at_end all) ]

-- one lot after the other
pub deals_then : (fed more : ℕ → List (List ℕ)) (f g h : Family) → Deals fed f g → Deals more g h → Deals (λ i. fed i ++ more i) f h
deals_then fed more f g h first second =
    record {
      told = second.told ∙ first.told;
      at_end = λ all. second.at_end (first.at_end all);
      whole = λ all. second.whole (first.whole all);
      rows = λ rows sure shows.
          shown_as (λ i. (rows i ++ fed i) ++ more i) (λ i. rows i ++ (fed i ++ more i)) h (λ i. append_assoc (rows i) (fed i) (more i))
          (second.rows (λ i. rows i ++ fed i) (sure_dealt fed f g first sure) (first.rows rows sure shows));
      laid = λ start ends was. second.laid start (first.at_end ends) (first.laid start ends was);
    }

-- the same rows by another name
pub deals_as : (fed these : ℕ → List (List ℕ)) (f g : Family) → ((i : ℕ) → fed i ≡ these i) → Deals fed f g → Deals these f g
deals_as fed these f g same deals =
    record {
      told = deals.told;
      at_end = deals.at_end;
      whole = deals.whole;
      rows = λ rows sure shows. shown_as (λ i. rows i ++ fed i) (λ i. rows i ++ these i) g (λ i. ap (λ (more : List (List ℕ)). rows i ++ more) (same i)) (deals.rows rows sure shows);
      laid = deals.laid;
    }

-- calls that leave all pages as they are
module _ (t : ℕ) (streams : List Streamed) (old new : Holdings) (before after : Signs) (shaped : AreShaped t (family streams old before)) (block_len : new.block_len ≡ old.block_len) (told : new.told ≡ old.told) (pages : new.pages ≡ old.pages) where
  pub shows_beside : (rows : ℕ → List (List ℕ)) → ShowAll rows (family streams old before) → ShowAll rows (family streams new after)
  shows_beside rows shows = λ i s there.
      agreeing_rows t s old new (shaped.each i s there) block_len (λ k p at. ap (λ (f : ℕ → Option LivePage). f p.name) pages) (rows i) (shows i s there)

  weighs_same : (w : Left → ℕ) → weight w (family streams new after) ≡ weight w (family streams old before)
  weighs_same w =
      ap (λ (f : ℕ → Option LivePage). sum_by (λ (s : Streamed). sum_by w (map (λ (p : PageToken). record { name = p.name; bytes = (or_else no_page (f p.name)).left }) (resting_in s.pinned s.pages))) streams) pages

  pub deals_beside : EnteredEvents AreApart before.trail after.trail → Deals (λ i. []) (family streams old before) (family streams new after)
  deals_beside entered =
      record {
        told = told;
        at_end = λ all. all;
        whole = λ all. all;
        rows = λ rows sure shows. shown_as rows (λ i. rows i ++ []) (family streams new after) (λ i. sym (append-nil (rows i))) (shows_beside rows shows);
        laid = λ start ends was.
            since_joined (HaveLaid (family streams old before)) AreApart (HaveLaid (family streams new after)) start before.trail after.trail
            (λ first next laid apart. record {
              building = All-append IsBuilding first next laid.building apart.building;
              left = λ w.
                  ap (λ (ls : List Left). sum_by w ls) (left_join first next ∙ ap (λ (ls : List Left). all_left first ++ ls) apart.none ∙ append-nil (all_left first))
                  ∙ laid.left w ∙ sym (weighs_same w);
            })
            was entered;
      }
