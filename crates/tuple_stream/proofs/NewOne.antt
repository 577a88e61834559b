-- A page comes behind those of a stream: what became of stream and store.
use Rattle.std.proofs.Common.{◌≡◌, ◌∙◌, ℕ, suc, ◌+◌, ◌*◌, ◌<◌, ◌≤◌, List, [], ◌∷◌, ◌++◌, length, map, drop, Option, Some, refl, ap, sym, subst, arith, append-nil}
use Rattle.std.specs.Bool.{⊤}
use Rattle.std.proofs.Math.Seq.{take-append_seam}
use Rattle.std.proofs.lemmas.List.{drop_all}
use Rattle.reservation_tree.specs.declared.errors.PoolErr.{PoolErr}
use Rattle.pool_model.specs.declared.call.Call.TheVariants as call
use Rattle.pool_model.specs.declared.event.Event.TheVariants.{Create}
use Rattle.block_arena.specs.Memory.{Buffer}
use Rattle.store_api.specs.Tokens.{ClientToken, PageToken}
use Rattle.store_api.specs.Holdings.{Holdings, LivePage, unused_of}
use Rattle.store_api.specs.Entries.{IsRefusal, IsTaken, Made}
use Rattle.store_api.specs.Refusals.{WasRefused}
use Rattle.store_api.specs.Signs.{Grows, Signs}
use Rattle.tuple_stream.specs.Streamed.{OpenPage, Streamed, len_in}
use Rattle.tuple_stream.specs.Streams.{IsShaped}
use Rattle.tuple_stream.specs.Trails.{Left, left_page, rested, resting_in}
use Rattle.tuple_stream.specs.Steps.{Lays, Readies, Went, scene}
use Rattle.tuple_stream.proofs.BuildingQuiet.{create_quiet, refused_quiet}
use Rattle.tuple_stream.proofs.Chosen.{all_placed, map_agrees}
use Rattle.tuple_stream.proofs.Going.{made_quiet, went_still}
use Rattle.tuple_stream.proofs.NewPage.{Comes, longer, same_block, same_page, with_new}
use Rattle.tuple_stream.proofs.NewRows.{new_rows, new_places}
use Rattle.tuple_stream.proofs.NewReady.{new_ready, new_shape}
use Rattle.tuple_stream.proofs.NewTouches.{new_touches}
use Rattle.tuple_stream.proofs.Sinces.{since_so, since_made}

module _ {c : ClientToken} {s : Streamed} {p : PageToken} {buf : Buffer} {old new : Holdings} (comes : Comes c s p buf old new) where
  same_left : map (left_page new) s.pages ≡ map (left_page old) s.pages
  same_left =
      map_agrees (left_page new) (left_page old) s.pages
      (all_placed (λ (r : PageToken). left_page new r ≡ left_page old r) s.pages (λ k r there. ap (λ (q : LivePage). record { name = r.name; bytes = q.left }) (same_page comes k r there)))

  -- the pages before it rest
  before_it : resting_in (Some (record { place = length s.pages; buf = buf })) (s.pages ++ p ∷ []) ≡ s.pages
  before_it =
      ap (λ (ps : List PageToken). ps ++ drop (suc (length s.pages)) (s.pages ++ p ∷ [])) (take-append_seam s.pages (p ∷ []))
      ∙ ap (λ (ps : List PageToken). s.pages ++ ps) (drop_all (suc (length s.pages)) (s.pages ++ p ∷ []) (omega (arith, (longer comes))))
      ∙ append-nil s.pages

  new_left : rested (with_new p buf s) new ≡ rested s old
  new_left =
      ap (map (left_page new)) before_it ∙ same_left
      ∙ ap (λ (o : Option OpenPage). map (left_page old) (resting_in o s.pages)) (sym comes.closed)

  pub new_readies : (now : Streamed) (maker bytes : ℕ) (before after : Signs) → now ≡ with_new p buf s → len_in s old ≤ unused_of c.tracker old → bytes ≤ len_in s old → (0 < length s.pages → len_in s old < s.used + bytes)
      → Made maker (IsTaken c.tracker old (Create p.name c.tracker s.page_blocks p.key ∷ [])) before after → Grows before after → Readies ⊤ ⊤ c.tracker bytes (scene s old before) (scene now new after)
  new_readies now maker bytes before after same room fits full made grows =
      subst (λ (r : Streamed). Readies ⊤ ⊤ c.tracker bytes (scene s old before) (scene r new after)) (sym same)
      (record {
        step = record {
          shape = new_shape comes;
          sized = refl;
          touches = new_touches comes room;
          trail = since_so (IsTaken c.tracker old (Create p.name c.tracker s.page_blocks p.key ∷ [])) (Lays ⊤ ⊥ (scene s old before) (scene (with_new p buf s) new after)) before.trail after.trail
              (λ made are.
              let quiet = create_quiet c.tracker old p.name c.tracker s.page_blocks p.key made are in
              record {
                creates = omega (arith, (longer comes), quiet.creates);
                building = λ steady. quiet.building;
                left = λ steady. new_left ∙ sym (append-nil (rested s old)) ∙ ap (λ (ls : List Left). rested s old ++ ls) (sym quiet.none);
                reads = λ never. absurd never;
              })
              (since_made (IsTaken c.tracker old (Create p.name c.tracker s.page_blocks p.key ∷ [])) maker before after made);
          grows = grows;
        };
        spent = refl;
        counted = refl;
        within = λ place is_in. record { page_is = let was = is_in.page_is in omega (arith, was, (longer comes)); row_is = is_in.row_is };
        space = record {
          last = ap (λ (n : ℕ). Some n) (sym (longer comes));
          room = let len : len_in (with_new p buf s) new ≡ len_in s old = ap (λ (n : ℕ). s.page_blocks * n) (same_block comes) in omega (arith, len, fits);
        };
        ready = λ rows sure has. new_ready comes rows has bytes fits full;
        rows = λ rows sure has. new_rows comes ∙ has.are;
        places = λ rows sure has. new_places comes;
      })

-- no page came
pub no_new : (t client blocks : ℕ) (s now : Streamed) (old new : Holdings) (e : PoolErr) (before after : Signs) → IsShaped t s old → now ≡ s
    → WasRefused client (call.Create client blocks) old new before after e → Grows before after → Went ⊤ ⊤ ⊥ t [] (scene s old before) (scene now new after)
no_new t client blocks s now old new e before after is stays refused grows =
    went_still t (scene s old before) (scene now new after) is stays refused.held
    (made_quiet ⊤ ⊥ (IsRefusal client old (call.Create client blocks) e) old.session before after (refused_quiet client old client blocks e) refused.entries) grows
