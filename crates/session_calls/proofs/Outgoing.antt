-- What all slots count, from one entry to the next.
use Rattle.std.proofs.Common.{◌≡◌, ℕ, ◌+◌, List, [], ◌∷◌, ◌++◌, true, refl, ap, sym, ◌∙◌, subst, arith}
use Rattle.std.proofs.lemmas.List.{append_assoc}
use Rattle.std.specs.List.{sum_by}
use Rattle.outside.specs.declared.slot.Slot.{Ghosts}
use Rattle.pool_model.specs.declared.event.Event.{Event}
use Rattle.pool_model.specs.declared.event.Event.TheVariants.{PinLoad, StartWrite}
use Rattle.pool_model.specs.declared.entry.Entry.{Entry}
use Rattle.pool_model.specs.State.{Opening, State, page_at}
use Rattle.pool_model.specs.MayFollow.{MayFollow}
use Rattle.pool_model.specs.Effects.{after}
use Rattle.pool_model.specs.Legal.{state_after, IsLegal}
use Rattle.pool_model.proofs.Fronts.{legal_fronts, legal_grows_so, state_runs_on}
use Rattle.store_api.specs.Entries.{by}
use Rattle.pin_core.specs.declared.parts.Parts.{Parts}
use Rattle.pin_core.specs.declared.tally.Tally.{Tally}
use Rattle.pin_core.specs.Plain.{is_plain}
use Rattle.pin_core.specs.StateOf.{state_of}
use Rattle.pin_core.specs.Standing.{StandsFor, slots_home}
use Rattle.pin_core.specs.Tallies.{Counted, all_failures, all_stale, stored_by, tally_by, tally_of, written_blocks}
use Rattle.pin_core.proofs.Tallied.{uncounted_yet}
use Rattle.session_calls.specs.declared.count.Count.{Count}
use Rattle.session_calls.specs.declared.count.Count.TheVariants.{Out}
use Rattle.session_calls.specs.Outgoing.{CountsWhole, no_tally, number_out, opening_tally, page_out, pages_out, tally_or, tally_out, tally_plus, tally_whole}
use Rattle.session_calls.specs.Moving.{rests}
use Rattle.session_calls.proofs.Lists.{by_append}
use Rattle.session_calls.proofs.Counting.{EventsArePlain, rest_plain, plain_failures, plain_stale, plain_stores}
use Rattle.session_calls.proofs.Counts.{counts_grew}
use Rattle.session_calls.proofs.CountLists.{counted_append, none_out, opening_still, out_append, out_same}
use Rattle.session_calls.proofs.JobsOut.{comes_back, end_out, goes_out, number_kept, was_home}
use Rattle.session_calls.proofs.Out.{out_by, out_run}
use Rattle.session_calls.proofs.WholeTally.{counted_beside, told_same, whole_by}
use Rattle.session_calls.proofs.Resting.{AllRest, all_by}
pub use Rattle.session_calls.proofs.CountLists.{tally_last}
pub use Rattle.session_calls.proofs.JobsOut.{EndsJob}
pub use Rattle.session_calls.proofs.OthersOut.{tally_lasts}

-- an event that takes slots out counts nothing
goes_plain : (p : ℕ) (out : Event) → page_out out ≡ p ∷ [] → is_plain out ≡ true
goes_plain p (PinLoad q) goes = refl
goes_plain p (StartWrite q) goes = refl
goes_plain p _ goes = let never : [] ≡ p ∷ [] = goes in cc

plain_last : (front : List Event) (last : Event) → EventsArePlain front → is_plain last ≡ true → EventsArePlain (front ++ last ∷ [])
plain_last [] last plain is = (is, tt)
plain_last (e ∷ front) last plain is = (plain.0, plain_last front last plain.1 is)

module _ {D : Type 0} (slot : Ghosts D) (o : Opening) (h : List Entry) (counts : List Count) (old : Parts D) (stood : StandsFor slot o h old) (was : CountsWhole slot h counts old) where
  -- what the pages in jobs weigh stays, over entries with which none begins or ends
  out_stays_by : (w : ℕ → ℕ → ℕ) (m : ℕ) (events : List Event) → AllRest events → IsLegal o (h ++ by m events) → out_by w (state_after o (h ++ by m events)).pages ≡ out_by w (state_of old).pages
  out_stays_by w m events rest legal =
      out_run w o h (by m events) legal (all_by (λ e. rests e ≡ true) m events rest) ∙ sym (ap (λ (s : State). out_by w s.pages) stood.state)

  -- with these events no job began or ended, and no slot moved
  pub counts_rest : (m : ℕ) (events : List Event) (new : Parts D) → AllRest events → StandsFor slot o (h ++ by m events) new
      → ((measure : D → ℕ) → slots_home measure new ≡ slots_home measure old) → CountsWhole slot (h ++ by m events) counts new
  counts_rest m events new rest stands slots =
      let plain : EventsArePlain events = rest_plain events rest in
      let same : tally_whole slot counts old ≡ tally_whole slot counts new = told_same slot (whole_by slot counts old) (whole_by slot counts new) (λ number measure sums.
      let home : slots_home measure new ≡ slots_home measure old = slots measure in
      let out : number_out number counts (state_of new).pages ≡ number_out number counts (state_of old).pages =
      ap (λ (s : State). number_out number counts s.pages) stands.state ∙ out_stays_by (λ p b. number (tally_or no_tally p counts)) m events rest stands.legal in
      omega (arith, home, out)) in
      record {
        pages = was.pages ∙ sym (out_same h (by m events) (none_out m events rest));
        counted =
            counts_grew o h (by m events) (h ++ by m events) stood.legal refl 0 0 0 (plain_failures m events plain) (plain_stores (h ++ by m events) m events plain) (plain_stale m events plain) (opening_tally counts)
            (tally_whole slot counts old) (tally_whole slot counts new) (subst (Counted 0 0 0 (tally_whole slot counts old)) same (uncounted_yet (tally_whole slot counts old))) was.counted;
      }

  -- the last of these events took a page's slots out
  pub counts_went : (m : ℕ) (front : List Event) (out : Event) (p : ℕ) (row : List D) (new : Parts D) → AllRest front → page_out out ≡ p ∷ [] → StandsFor slot o (h ++ by m (front ++ out ∷ [])) new
      → ((measure : D → ℕ) → slots_home measure new + sum_by measure row ≡ slots_home measure old) → CountsWhole slot (h ++ by m (front ++ out ∷ [])) (counts ++ Out p (tally_of slot row) ∷ []) new
  counts_went m front out p row new rest goes stands slots =
      let t : Tally = tally_of slot row in
      let later : List Count = counts ++ Out p t ∷ [] in
      let events : List Event = front ++ out ∷ [] in
      let plain : EventsArePlain events = plain_last front out (rest_plain front rest) (goes_plain p out goes) in
      let mid : List Entry = h ++ by m front in
      let e : Entry = record { maker = m; event = out } in
      let s : State = state_after o mid in
      let parts : h ++ by m events ≡ mid ++ e ∷ [] = ap (λ (es : List Entry). h ++ es) (by_append m front (out ∷ [])) ∙ sym (append_assoc h (by m front) (e ∷ [])) in
      let legal : IsLegal o (mid ++ e ∷ []) = subst (IsLegal o) parts stands.legal in
      let may : MayFollow mid s e = (legal_grows_so o mid (e ∷ []) legal).0 in
      let state : state_of new ≡ after s e = stands.state ∙ ap (state_after o) parts ∙ state_runs_on o mid (e ∷ []) in
      let same : tally_whole slot counts old ≡ tally_whole slot later new = told_same slot (whole_by slot counts old) (whole_by slot later new) (λ number measure sums.
      let home : slots_home measure new + sum_by measure row ≡ slots_home measure old = slots measure in
      let weight : ℕ → ℕ → ℕ = λ q b. number (tally_or no_tally q later) in
      let out_now : number_out number later (state_of new).pages ≡ number_out number later s.pages + weight p (page_at s p).blocks =
      ap (λ (u : State). number_out number later u.pages) state ∙ goes_out mid s m p weight out goes may in
      let its : weight p (page_at s p).blocks ≡ sum_by measure row = ap number (tally_last counts p t) ∙ sums row in
      let kept : number_out number later s.pages ≡ number_out number counts (state_of old).pages =
      number_kept number counts p t s.pages (was_home mid s m p out goes may) ∙ out_stays_by (λ q b. number (tally_or no_tally q counts)) m front rest (legal_fronts o mid (e ∷ []) legal) in
      omega (arith, home, out_now, its, kept)) in
      let first : opening_tally later ≡ opening_tally counts = opening_still counts p t in
      record {
        pages =
            counted_append counts (Out p t ∷ []) ∙ ap (λ (pages : List ℕ). pages ++ p ∷ []) (was.pages ∙ sym (out_same h (by m front) (none_out m front rest)))
            ∙ ap (λ (pages : List ℕ). pages_out mid ++ pages) (sym (ap (λ (pages : List ℕ). pages ++ []) goes)) ∙ sym (out_append mid (e ∷ [])) ∙ sym (ap pages_out parts);
        counted = subst (λ (f : Tally). Counted (all_failures (h ++ by m events)) (written_blocks (h ++ by m events)) (all_stale (h ++ by m events)) f (tally_whole slot later new)) (sym first)
            (counts_grew o h (by m events) (h ++ by m events) stood.legal refl 0 0 0 (plain_failures m events plain) (plain_stores (h ++ by m events) m events plain) (plain_stale m events plain) (opening_tally counts)
            (tally_whole slot counts old) (tally_whole slot later new) (subst (Counted 0 0 0 (tally_whole slot counts old)) same (uncounted_yet (tally_whole slot counts old))) was.counted);
      }

  -- a page's slots came back with its job's end, and count more than they did when they went out
  pub counts_came : (m p : ℕ) (end : Event) (went row : List D) (new : Parts D) → EndsJob p end → StandsFor slot o (h ++ by m (end ∷ [])) new
      → tally_or no_tally p counts ≡ tally_of slot went
      → ((measure : D → ℕ) → slots_home measure new ≡ slots_home measure old + sum_by measure row)
      → Counted (all_failures (by m (end ∷ []))) (sum_by (λ e. stored_by (h ++ by m (end ∷ [])) e.event) (by m (end ∷ []))) (all_stale (by m (end ∷ [])))
      (tally_by slot (λ measure. slots_home measure old + sum_by measure went)) (tally_by slot (λ measure. slots_home measure old + sum_by measure row))
      → CountsWhole slot (h ++ by m (end ∷ [])) counts new
  counts_came m p end went row new ends stands its slots more =
      let e : Entry = record { maker = m; event = end } in
      let s : State = state_after o h in
      let may : MayFollow h s e = (legal_grows_so o h (e ∷ []) stands.legal).0 in
      let state : state_of new ≡ after s e = stands.state ∙ state_runs_on o h (e ∷ []) in
      let failures : ℕ = all_failures (e ∷ []) in
      let blocks : ℕ = sum_by (λ d. stored_by (h ++ e ∷ []) d.event) (e ∷ []) in
      let stale : ℕ = all_stale (e ∷ []) in
      let rest : Tally = tally_out counts (state_of new).pages in
      let before : Tally = tally_by slot (λ measure. slots_home measure old + sum_by measure went) in
      let now : Tally = tally_by slot (λ measure. slots_home measure old + sum_by measure row) in
      let was_before : tally_plus before rest ≡ tally_whole slot counts old =
      told_same slot (λ number measure. (slots_home measure old + sum_by measure went) + number_out number counts (state_of new).pages) (whole_by slot counts old) (λ number measure sums.
      let weight : ℕ → ℕ → ℕ = λ q b. number (tally_or no_tally q counts) in
      let back : number_out number counts (state_of new).pages + weight p (page_at s p).blocks ≡ number_out number counts (state_of old).pages =
      ap (λ (u : State). number_out number counts u.pages + weight p (page_at s p).blocks) state ∙ comes_back h s m p weight end ends may ∙ sym (ap (λ (u : State). number_out number counts u.pages) stood.state) in
      let one : weight p (page_at s p).blocks ≡ sum_by measure went = ap number its ∙ sums went in
      omega (arith, back, one)) in
      let is_now : tally_plus now rest ≡ tally_whole slot counts new =
      told_same slot (λ number measure. (slots_home measure old + sum_by measure row) + number_out number counts (state_of new).pages) (whole_by slot counts new)
      (λ number measure sums. ap (λ (n : ℕ). n + number_out number counts (state_of new).pages) (sym (slots measure))) in
      record {
        pages = was.pages ∙ sym (out_same h (e ∷ []) (ap (λ (pages : List ℕ). pages ++ []) (end_out p end ends)));
        counted =
            counts_grew o h (e ∷ []) (h ++ e ∷ []) stood.legal refl failures blocks stale refl refl refl (opening_tally counts) (tally_whole slot counts old) (tally_whole slot counts new)
            (subst (Counted failures blocks stale (tally_whole slot counts old)) is_now
            (subst (λ (t : Tally). Counted failures blocks stale t (tally_plus now rest)) was_before (counted_beside failures blocks stale before now rest more))) was.counted;
      }
