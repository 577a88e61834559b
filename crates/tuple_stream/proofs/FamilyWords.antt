-- What became of all streams where one of them was called, one lemma a kind of call.
use Rattle.std.proofs.Common.{◌≡◌, ◌∙◌, ℕ, ◌+◌, ◌⊎◌, List, [], ◌++◌, length, drop, Some, None, refl, ap, sym, subst, inl, inr, arith, append-nil, ne_eqb, eq-eqb}
use Rattle.std.specs.Bool.{⊤}
use Rattle.std.specs.List.{slice_get}
use Rattle.std.proofs.lemmas.Bool.{cases_eq}
use Rattle.std.proofs.lemmas.Option.{same_Some}
use Rattle.tuple_stream.specs.Streamed.{Streamed}
use Rattle.tuple_stream.specs.Streams.{HasRows, IsAtEnd, IsOpenAt}
use Rattle.tuple_stream.specs.Steps.{Adds, Reads, Rests, Scene, Tells, scene}
use Rattle.tuple_stream.specs.Reading.{ReadsAll}
use Rattle.tuple_stream.specs.Spending.{Empties, Spends}
use Rattle.tuple_stream.specs.Families.{AreShaped, Family, FamilySteps, LaysAll, ShowAll, changed}
use Rattle.tuple_stream.specs.FamilyCalls.{AllAtEnd, AreSteady, AreSure, EmptiesIn, Feeds, FeedsAll, ReadsIn, ReadsOne, RestsSome, SpendsIn, with_rows}
use Rattle.tuple_stream.proofs.Going.{steps_under}
use Rattle.tuple_stream.proofs.Ends.{laid_goes}
use Rattle.tuple_stream.proofs.FamilyChains.{goes_both, goes_none, lays_both, lays_none}
use Rattle.tuple_stream.proofs.FamilyStep.{family_shows, goes_step, lays_step}
use Rattle.tuple_stream.proofs.OnePlace.{each_changed, here, other}

-- the same rows by another name
pub shown_as : (rows these : ℕ → List (List ℕ)) (f : Family) → ((i : ℕ) → rows i ≡ these i) → ShowAll rows f → ShowAll these f
shown_as rows these f same shows = λ i s there. subst (λ (rs : List (List ℕ)). HasRows rs s f.held) (same i) (shows i s there)

same_rows : (i : ℕ) (rows : ℕ → List (List ℕ)) (j : ℕ) → with_rows i (rows i ++ []) rows j ≡ rows j
same_rows i rows j =
    elim (cases_eq j i) [
      | inl same ↦ rw (eq-eqb j i same) (append-nil (rows i) ∙ ap rows (sym same))
      | inr apart ↦ rw (ne_eqb j i apart) refl
    ]

module _ (t i : ℕ) (f : Family) (a : Streamed) (b : Scene) (is : AreShaped t f) (at : slice_get f.streams i ≡ Some a) where
  -- ---- a row was appended

  pub feeds : (more : List (List ℕ)) → Adds t more (scene a f.held f.signs) b → Feeds t i more f (changed i b f)
  feeds more went =
      record {
        steps = lays_step i is at (steps_under t (scene a f.held f.signs) b (λ all. all i a at) (λ never. never) went.step);
        whole = λ whole. each_changed f.streams i at b.stream (λ s. s.spent ≡ 0) whole (went.spent ∙ whole i a at);
        rows = λ rows sure shows.
            let own : (Tells (scene a f.held f.signs)) ⊎ IsAtEnd a = elim sure [ inl tells ↦ inl tells | inr all ↦ inr (all i a at) ] in
            family_shows i is at went.step rows (rows i ++ more) shows (went.rows (rows i) own (shows i a at));
      }

  pub at_end_kept : IsAtEnd b.stream → AllAtEnd f → AllAtEnd (changed i b f)
  at_end_kept ends all = each_changed f.streams i at b.stream IsAtEnd all ends

  -- ---- one was read

  pub reads_in : Reads t (scene a f.held f.signs) b → b.stream ≡ record a { pinned = b.stream.pinned } → ReadsIn t f (changed i b f)
  reads_in went same =
      record {
        steps = goes_step i is at (laid_goes t (scene a f.held f.signs) b went.step (ap (λ (s : Streamed). length s.pages) same));
        whole = λ whole. each_changed f.streams i at b.stream (λ s. s.spent ≡ 0) whole (went.spent ∙ whole i a at);
        rows = λ rows tells shows.
            shown_as (with_rows i (rows i ++ []) rows) rows (changed i b f) (same_rows i rows)
            (family_shows i is at went.step rows (rows i ++ []) shows (went.rows (rows i) tells (shows i a at)));
      }

  -- to its end
  pub reads_one : (before after : List (List ℕ)) → ReadsAll before after (scene a f.held f.signs) → ReadsOne i before after f
  reads_one before after all =
      record {
        counted = λ s there. all.counted ∙ ap (λ (r : Streamed). length before + r.count) (same_Some a s (sym at ∙ there));
        rows_are = λ rows tells shows. all.rows_are (rows i) tells (shows i a at);
      }

  -- ---- a row was taken out

  pub spends_in : (row : List ℕ) → Spends t (Some row) (scene a f.held f.signs) b → SpendsIn t i row f (changed i b f)
  spends_in row spends =
      record {
        steps = goes_step i is at spends.step;
        pins = λ closed. spends.pins (closed i a at);
        rows = λ rows sure shows.
            let own : (Tells (scene a f.held f.signs)) ⊎ IsOpenAt 0 a = elim sure [ inl tells ↦ inl tells | inr open_is ↦ inr (open_is a at) ] in
            let first = spends.rows (rows i) own (shows i a at) in
            (first.0, family_shows i is at spends.step rows (drop 1 (rows i)) shows first.1);
      }

  -- ---- all pages of one went

  pub empties_in : Empties t (scene a f.held f.signs) b → HasRows [] b.stream b.held → EmptiesIn t i f (changed i b f)
  empties_in went none = record { steps = goes_step i is at went; rows = λ rows shows. family_shows i is at went rows [] shows none }

-- ---- rows are appended, one after the other

pub feeds_none : (t : ℕ) (f : Family) → AreShaped t f → FeedsAll t (λ i. []) f f
feeds_none t f is =
    record {
      steps = lays_none (AllAtEnd f) ⊥ t f is;
      at_end = λ all. all;
      whole = λ all. all;
      rows = λ rows sure shows. shown_as rows (λ i. rows i ++ []) f (λ i. sym (append-nil (rows i))) shows;
    }

pub sure_later : (t : ℕ) (f g : Family) (fed : ℕ → List (List ℕ)) → FeedsAll t fed f g → AreSure f → AreSure g
sure_later t f g fed feeds sure = elim sure [ inl tells ↦ inl (feeds.steps.touches.told ∙ tells) | inr all ↦ inr (feeds.at_end all) ]

pub feeds_more : (t i : ℕ) (fed now : ℕ → List (List ℕ)) (more : List (List ℕ)) (f g h : Family) → FeedsAll t fed f g → Feeds t i more g h → (AllAtEnd g → AllAtEnd h) → ((rows : ℕ → List (List ℕ)) (j : ℕ) → with_rows i ((rows i ++ fed i) ++ more) (λ k. rows k ++ fed k) j ≡ rows j ++ now j) → FeedsAll t now f h
feeds_more t i fed now more f g h was one ends same =
    record {
      steps = lays_both f g h t was.at_end (λ never. never) was.steps one.steps;
      at_end = λ all. ends (was.at_end all);
      whole = λ all. one.whole (was.whole all);
      rows = λ rows sure shows.
          shown_as (with_rows i ((rows i ++ fed i) ++ more) (λ k. rows k ++ fed k)) (λ j. rows j ++ now j) h (same rows)
          (one.rows (λ k. rows k ++ fed k) (sure_later t f g fed was sure) (was.rows rows sure shows));
    }

-- ---- they are let rest, one after the other

pub rests_none : (t : ℕ) (f : Family) → AreShaped t f → RestsSome t 0 f f
rests_none t f is =
    record {
      steps = lays_none (AreSteady f) ⊤ t f is;
      steady = λ all. all;
      whole = λ all. all;
      closed = λ i s there below. absurd (omega (arith, below));
      rows = λ rows shows. shows;
    }

module _ (t i : ℕ) (f g : Family) (a : Streamed) (b : Scene) (was : RestsSome t i f g) (at : slice_get g.streams i ≡ Some a) (went : Rests t (scene a g.held g.signs) b) where
  rested_steps : FamilySteps (LaysAll (AreSteady g) ⊤ g (changed i b g)) t g (changed i b g)
  rested_steps = lays_step i was.steps.shaped at (steps_under t (scene a g.held g.signs) b (λ all. all i a at) (λ reading. reading) went.step)

  -- a call that gave up
  pub rests_cut : FamilySteps (LaysAll (AreSteady f) ⊤ f (changed i b g)) t f (changed i b g)
  rests_cut = lays_both f g (changed i b g) t was.steady (λ reading. reading) was.steps rested_steps

  pub rests_more : b.stream.pinned ≡ None → RestsSome t (i + 1) f (changed i b g)
  rests_more closed =
      record {
        steps = rests_cut;
        steady = λ all. each_changed g.streams i at b.stream (λ s. IsAtEnd s ⊎ (s.pinned ≡ None)) (was.steady all) (inr closed);
        whole = λ all. each_changed g.streams i at b.stream (λ s. s.spent ≡ 0) (was.whole all) (went.spent ∙ was.whole all i a at);
        closed = λ j s there below.
            elim (cases_eq j i) [
              | inl same ↦ subst (λ (r : Streamed). r.pinned ≡ None) (here g.streams i at b.stream j s same there) closed
              | inr apart ↦ was.closed j s (other g.streams i at b.stream j s apart there) (omega (arith, below, apart))
            ];
        rows = λ rows shows.
            let mid = was.rows rows shows in
            shown_as (with_rows i (rows i ++ []) rows) rows (changed i b g) (same_rows i rows)
            (family_shows i was.steps.shaped at went.step rows (rows i ++ []) mid (went.rows (rows i) tt (mid i a at)));
      }

-- ---- they are read, one after the other

pub reads_none : (t : ℕ) (f : Family) → AreShaped t f → ReadsIn t f f
reads_none t f is = record { steps = goes_none t f is; whole = λ all. all; rows = λ rows tells shows. shows }

pub reads_both : (t : ℕ) (f g h : Family) → ReadsIn t f g → ReadsIn t g h → ReadsIn t f h
reads_both t f g h one two =
    record {
      steps = goes_both f g h t one.steps two.steps;
      whole = λ all. two.whole (one.whole all);
      rows = λ rows tells shows. two.rows rows (one.steps.touches.told ∙ tells) (one.rows rows tells shows);
    }
