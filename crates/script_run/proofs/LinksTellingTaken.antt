-- What the links tell that they took, one after another.
use Rattle.std.proofs.Common.{◌≡◌, ℕ, zero, suc, ◌+◌, ◌<◌, ◌≤◌, List, [], ◌∷◌, ◌++◌, map, take, get_or, length, Some, IfSome, Result, Ok, Err, IfOk, ap, sym, subst, ◌∙◌, arith}
use Rattle.std.proofs.lemmas.List.{length-map, length-take-le, take_more, take_all}
use Rattle.sock_words.specs.declared.outcome.Outcome.{Outcome}
use Rattle.sock_words.specs.declared.place_word.PlaceWord.{PlaceWord}
use Rattle.std.specs.Prelude.{Option}
use Rattle.brpc_model.specs.Items.{Item}
use Rattle.brpc_model.specs.ReturnedLink.{LinkEnd}
use Rattle.brpc_model.specs.PlaceWords.{ArePlaces, HasEachOutcome, outcomes_from, AreTold}
use Rattle.script_items.specs.LineMeaning.{item}
use Rattle.script_items.specs.declared.line.Line.{Line}
use Rattle.script_report.specs.declared.summary.Load.{Load}
use Rattle.script_report.specs.RunSummary.{told_of, sums_of, summary_text}
use Rattle.script_report.proofs.Existing.{report_exists}
use Rattle.script_run.specs.declared.report.Print.{Print}
use Rattle.script_run.specs.declared.report.Print.TheVariants as print
use Rattle.script_run.specs.Played.{IsPrintOf}
use Rattle.script_links.proofs.LinkNumbering.{map_more}

first_told : (e other : LinkEnd) (bytes : List ℕ) → Some e ≡ Some other → IfSome e.took (λ told. bytes ≡ told) → IfSome other.took (λ told. bytes ≡ told)
first_told e other bytes at h = let same : e ≡ other = cc in subst (λ (x : LinkEnd). IfSome x.took (λ told. bytes ≡ told)) same h

-- one link more
told_push : (ends : List LinkEnd) (took : List (List ℕ)) (e : LinkEnd) (bytes : List ℕ) → length took ≡ length ends → AreTold ends took → IfSome e.took (λ told. bytes ≡ told) → AreTold (ends ++ e ∷ []) (took ++ bytes ∷ [])
told_push [] [] e bytes many h told zero other at = first_told e other bytes at told
told_push [] [] e bytes many h told (suc k) other at = absurd (cc)
told_push [] (b ∷ bs) e bytes many h told k other at = absurd (omega (arith, many))
told_push (x ∷ xs) [] e bytes many h told k other at = absurd (omega (arith, many))
told_push (x ∷ xs) (b ∷ bs) e bytes many h told zero other at = h zero other at
told_push (x ∷ xs) (b ∷ bs) e bytes many h told (suc k) other at = told_push xs bs e bytes (omega (arith, many)) (λ j y a. h (suc j) y a) told k other at

module _ {A T : Type 0} (f : A → LinkEnd) (view : T → List ℕ) (ends : List A) where
  pub told_more : (i : ℕ) (x : A) (took more : List T) (t : T) → i < length ends → x ≡ get_or ends i x → length took ≡ i → more ≡ took ++ t ∷ [] → IfSome (f x).took (λ told. view t ≡ told) →
      AreTold (map f (take i ends)) (map view took) → AreTold (map f (take (i + 1) ends)) (map view more)
  told_more i x took more t inside at many push told h =
      let links : map f (take (i + 1) ends) ≡ map f (take i ends) ++ f x ∷ [] = ap (map f) (take_more ends i x inside ∙ ap (λ y. take i ends ++ y ∷ []) (sym at)) ∙ map_more f (take i ends) x in
      let bytes : map view more ≡ map view took ++ view t ∷ [] = ap (map view) push ∙ map_more view took t in
      let as_many : length (map view took) ≡ length (map f (take i ends)) = length-map took view ∙ many ∙ sym (length-map (take i ends) f ∙ length-take-le i ends (omega (arith, inside))) in
      subst (λ es. AreTold es (map view more)) (sym links) (subst (AreTold (map f (take i ends) ++ f x ∷ [])) (sym bytes) (told_push (map f (take i ends)) (map view took) (f x) (view t) as_many h told))

  pub told_all : (i : ℕ) (took : List T) → length ends ≤ i → AreTold (map f (take i ends)) (map view took) → AreTold (map f ends) (map view took)
  told_all i took h told = subst (λ es. AreTold (map f es) (map view took)) (take_all i ends h) told

-- what is printed of a script, by what was said, the place words and what the links took
module _ {A L T E : Type 0} (items : T → List ℕ) (view : A → List ℕ) (ends_of : L → LinkEnd) (Prints : List Item → List (Option Outcome) → List PlaceWord → List (List ℕ) → List ℕ → Type 0) where
  -- the text that was printed is that of what is left, where lines are printed that are reported like those of the script
  pub reported : (r : Result T E) (lines : List Line) (kept script : List Item) (said : List (Option Outcome)) (words : List PlaceWord) (links : List L) (took showing : List A) →
      map item lines ≡ kept → ((os : List (Option Outcome)) (x : List (List ℕ)) (text : List ℕ) → Prints kept os words x text → Prints script os words x text) → showing ≡ took → AreTold (map ends_of links) (map view took) →
      IfOk r (λ t. ArePlaces words → HasEachOutcome words said → Prints (map item lines) said words (map view showing) (items t)) →
      IfOk r (λ t. ArePlaces words → HasEachOutcome words said → (x : List (List ℕ)) × AreTold (map ends_of links) x × Prints script said words x (items t))
  reported (Ok t) lines kept script said words links took showing e alike s told h = λ places each. (
    map view took,
    told,
    alike said (map view took) (items t)
        (subst (λ xs. Prints xs said words (map view took) (items t)) e
        (subst (λ xs. Prints (map item lines) said words (map view xs) (items t)) s (h places each))),
  )
  reported (Err x) lines kept script said words links took showing e alike s told h = tt

-- a summary has the numbers of the report that is told
pub summed : {T E : Type 0} (items : T → List ℕ) (shows : Print) (load : Load) (script : List Item) (said : List (Option Outcome)) (words : List PlaceWord) (took : List (List ℕ)) (r : Result T E) → shows ≡ print.Summary load →
    IfOk r (λ t. HasEachOutcome words said → items t ≡ summary_text load.seed load.clients load.operations (sums_of (told_of script (outcomes_from words 0 said)))) →
    IfOk r (λ t. ArePlaces words → HasEachOutcome words said → IsPrintOf shows script said words took (items t))
summed items shows load script said words took (Err e) is h = tt
summed items shows load script said words took (Ok t) is h = λ places each. let w = report_exists script said words took places in subst (λ (p : Print). IsPrintOf p script said words took (items t)) (sym is) (record {
  whole = w.0;
  reported = w.1;
  sums = h each ∙ ap (λ (os : List Outcome). summary_text load.seed load.clients load.operations (sums_of (told_of script os))) (sym w.1.told.outcomes);
})
