-- Entries of one maker, one after the other.
use Rattle.std.proofs.Common.{◌≡◌, ℕ, List, [], ◌∷◌, ◌++◌, Bool, cond, filter, refl, sym, ap, ◌∙◌, subst, eq-eqb, ne_eqb}
use Rattle.std.proofs.lemmas.List.{append_assoc, append-nil}
use Rattle.pool_model.specs.declared.event.Event.{Event}
use Rattle.pool_model.specs.declared.entry.Entry.{Entry}
use Rattle.pool_model.specs.LookingBack.{is_by, made_by}
use Rattle.pool_model.proofs.OwnEntries.{made_more}
use Rattle.store_api.specs.Entries.{by}
use Rattle.own_entries.specs.AboveLaws.{AllBy}
use Rattle.session_calls.specs.Having.{AllBeside}
pub use Rattle.session_calls.specs.Moving.{NoneOpens}

pub by_append : (m : ℕ) (a b : List Event) → by m (a ++ b) ≡ by m a ++ by m b
by_append m [] b = refl
by_append m (e ∷ a) b = ap (λ (es : List Entry). record { maker = m; event = e } ∷ es) (by_append m a b)

-- of entries that one maker made all are its own
pub all_own : (m : ℕ) (es : List Entry) → AllBy m es → filter (is_by m) es ≡ es
all_own m [] all = refl
all_own m (e ∷ es) all =
    ap (λ (b : Bool). cond b (e ∷ filter (is_by m) es) (filter (is_by m) es)) (eq-eqb e.maker m all.0) ∙ ap (λ (l : List Entry). e ∷ l) (all_own m es all.1)

-- and of entries that others made none
pub none_own : (m : ℕ) (es : List Entry) → AllBeside m es → filter (is_by m) es ≡ []
none_own m [] all = refl
none_own m (e ∷ es) all = ap (λ (b : Bool). cond b (e ∷ filter (is_by m) es) (filter (is_by m) es)) (ne_eqb e.maker m all.0) ∙ none_own m es all.1

pub opens_append : (a b : List Event) → NoneOpens a → NoneOpens b → NoneOpens (a ++ b)
opens_append [] b first rest = rest
opens_append (e ∷ a) b first rest = (first.0, opens_append a b first.1 rest)

-- the trail is the owner's alone
pub alone_more : (m : ℕ) (h : List Entry) (events : List Event) → AllBy m h → AllBy m (h ++ by m events)
alone_more m [] [] all = tt
alone_more m [] (e ∷ events) all = (refl, alone_more m [] events tt)
alone_more m (d ∷ h) events all = (all.0, alone_more m h events all.1)

-- and all of it is from its opening on
pub whole_more : (m : ℕ) (h : List Entry) (events : List Event) → NoneOpens events → made_by h m ≡ h → made_by (h ++ by m events) m ≡ h ++ by m events
whole_more m h [] none whole = ap (λ (es : List Entry). made_by es m) (append-nil h) ∙ whole ∙ sym (append-nil h)
whole_more m h (e ∷ events) none whole =
    let d : Entry = record { maker = m; event = e } in
    let one : made_by (h ++ d ∷ []) m ≡ h ++ d ∷ [] = made_more h d m refl none.0 ∙ ap (λ (es : List Entry). es ++ d ∷ []) whole in
    let same : (h ++ d ∷ []) ++ by m events ≡ h ++ d ∷ by m events = append_assoc h (d ∷ []) (by m events) in
    subst (λ (es : List Entry). made_by es m ≡ es) same (whole_more m (h ++ d ∷ []) events none.1 one)

-- what it enters are its own entries
pub by_own : (m : ℕ) (events : List Event) → filter (is_by m) (by m events) ≡ by m events
by_own m events = all_own m (by m events) (alone_more m [] events tt)
