-- What is read is spelled: each token that the reader takes fits what it read before.
use Rattle.std.proofs.Common.{◌≡◌, ℕ, ◌<◌, Bool, true, false, cond, not, ◌&&◌, List, [], ◌∷◌, ◌++◌, Option, Some, None, length, refl, sym, ap, subst, ◌∙◌, append_assoc}
use Rattle.std.specs.Prelude.{codes}
use Rattle.std.proofs.lemmas.Bool.{leb-true, ltb-true, false≢true}
use Rattle.std.specs.Option.{option_and_then}
use Rattle.std.specs.Prelude.{nat_le, nat_lt}
use Rattle.std.specs.List.{list_all}
use Rattle.first_forms.specs.Lexing.{token}
use Rattle.std.specs.Str.{bytes_eq}
use Rattle.first_trees.specs.declared.Item.{Item}
use Rattle.first_trees.specs.declared.Item.TheVariants as item
use Rattle.first_trees.specs.declared.DeclarationKind.{DeclarationKind}
use Rattle.first_trees.specs.declared.DeclarationKind.TheVariants.{Let, Const}
use Rattle.first_trees.specs.declared.Expression.TheVariants as expression
use Rattle.first_trees.specs.declared.Call.{Call}
use Rattle.first_trees.specs.declared.Sum.{Sum}
use Rattle.first_trees.specs.declared.Term.{Term}
use Rattle.first_trees.specs.declared.Term.TheVariants as term
use Rattle.first_forms.specs.declared.token.Token.{Token}
use Rattle.first_forms.specs.declared.token.TokenKind.{TokenKind}
use Rattle.first_forms.specs.declared.token.TokenKind.TheVariants as kind
use Rattle.first_forms.specs.declared.reader.Reader.{Reader}
use Rattle.first_forms.specs.declared.reader.Binding.{Binding}
use Rattle.first_forms.specs.declared.reader.CallOwner.{CallOwner}
use Rattle.first_forms.specs.declared.reader.CallOwner.TheVariants as call_owner
use Rattle.first_forms.specs.declared.reader.OpenCall.{OpenCall}
use Rattle.first_forms.specs.declared.reader.SumOwner.{SumOwner}
use Rattle.first_forms.specs.declared.reader.SumOwner.TheVariants as sum_owner
use Rattle.first_forms.specs.declared.reader.OpenSum.{OpenSum}
use Rattle.first_forms.specs.declared.reader.State.{State}
use Rattle.first_forms.specs.declared.reader.State.TheVariants as state
use Rattle.first_forms.specs.Names.{is_one_of}
use Rattle.first_forms.specs.Spelling.{Pattern, anywhere, at, Matches, MatchesAll, name_token, term_token, sum_tokens, keyword, item_tokens}
use Rattle.first_forms.specs.WellFormed.{Scope, max_integer, is_text_unit, place_of, IsTerm, AreTerms, IsSum, AreSums, IsCall, CanDeclare, AreItems, AreImports, AreModuleItems}
use Rattle.first_forms.specs.Modules.{Spells}
use Rattle.first_forms.specs.Reading.{after, run, step, term_at, term_of, first_term, with_term, next_term, term_step, new_call, call_open, argument_step, is_right_paren, first_argument, call_end, after_declaration, after_argument, sum_end, is_plus, after_term, initializer_at, declaration_equals, can_declare, declaration_name, item_name, item_at, item_step, is_import, import_step, start_step, import_open, import_name, import_next, import_from, import_host, import_end, start, import_items, module_of, with_name, is_bindable}
use Rattle.first_forms.proofs.Scopes.{and_cases, not_cases, same_bytes, test-bindable, with_name-new}
use Rattle.first_forms.proofs.Accepted.{scope}
use Rattle.first_forms.proofs.Front.{names_front, before_name, import_front, items_front, front, declaration_front, owner_front, arguments_front, before_argument, call_front, sum_front, so_far, items_front-push, added-push, arguments-push, names-push, names-close, arguments-close, items-close, IsKept, IsCallOwner, IsOpenCall, IsSumOwner, AtState, Fits, FitsAll, fits-none, fits-some, fits-of, kept-item, kept-declaration, kept-import}
use Rattle.first_forms.proofs.Runs.{same_outcome}

-- ## Choices

fits-branch : (hosts : List (List ℕ)) (r : Reader) (s : State) (t : Token) (b : Bool) (x y : Option State) → (b ≡ true → FitsAll hosts r s t (after r x)) → (b ≡ false → FitsAll hosts r s t (after r y))
    → FitsAll hosts r s t (after r (cond b x y))
fits-branch hosts r s t true x y f g = f refl
fits-branch hosts r s t false x y f g = g refl

fits-cond : (hosts : List (List ℕ)) (r : Reader) (s : State) (t : Token) (b : Bool) (r' : Reader) (s' : State) → (b ≡ true → Fits hosts r s t r' s') → FitsAll hosts r s t (cond b (Some (r', s')) None)
fits-cond hosts r s t true r' s' f = fits-some hosts r s t r' s' (f refl)
fits-cond hosts r s t false r' s' f = fits-none hosts r s t

-- ## Terms

-- what `term_at` says of a token
record IsTermAt (r : Reader) (place : ℕ) (k : TokenKind) (x : Term) : Type 0 where
  matches : Matches (token place k) (term_token x)
  place_is : place ≡ place_of x
  fits : IsTerm (scope r) x

TermsAt : Reader → ℕ → TokenKind → Option Term → Type 0
TermsAt r place k None = Unit {0}
TermsAt r place k (Some x) = IsTermAt r place k x

terms-if : (r : Reader) (place : ℕ) (k : TokenKind) (b : Bool) (x : Term) → (b ≡ true → IsTermAt r place k x) → TermsAt r place k (cond b (Some x) None)
unfolding TermsAt
terms-if r place k true x f = f refl
terms-if r place k false x f = tt

term_at-fits : (r : Reader) (place : ℕ) (k : TokenKind) → TermsAt r place k (term_at r.declared place k)
unfolding term_at TermsAt
term_at-fits r place (kind.Integer value) =
    terms-if r place (kind.Integer value) (nat_le value max_integer) (term.Integer place value) (λ h. record { matches = (refl, refl); place_is = refl; fits = leb-true value max_integer h })
term_at-fits r place (kind.Text units) =
    terms-if r place (kind.Text units) (list_all is_text_unit units) (term.Text place units) (λ h. record { matches = (refl, refl); place_is = refl; fits = h })
term_at-fits r place (kind.Name name) =
    terms-if r place (kind.Name name) (is_one_of name r.declared) (term.Name place name) (λ h. record { matches = (refl, refl); place_is = refl; fits = h })
term_at-fits r place k = tt

AreTerms-push : (s : Scope) (xs : List Term) (x : Term) → AreTerms s xs → IsTerm s x → AreTerms s (xs ++ x ∷ [])
AreTerms-push s [] x h m = (m, tt)
AreTerms-push s (y ∷ xs) x h m = (h.0, AreTerms-push s xs x h.1 m)

AreSums-push : (s : Scope) (xs : List Sum) (x : Sum) → AreSums s xs → IsSum s x → AreSums s (xs ++ x ∷ [])
AreSums-push s [] x h m = (m, tt)
AreSums-push s (y ∷ xs) x h m = (h.0, AreSums-push s xs x h.1 m)

before_argument-push : (xs : List Sum) (x : Sum) (rest : List Pattern) → before_argument (xs ++ x ∷ []) rest ≡ before_argument xs (sum_tokens x (anywhere kind.Comma ∷ rest))
before_argument-push [] x rest = refl
before_argument-push (y ∷ xs) x rest = arguments-push (y ∷ xs) x (anywhere kind.Comma ∷ rest)

front-item : (r : Reader) (x : Item) (rest : List Pattern) → items_front (import_items r.imported ++ (r.items ++ x ∷ [])) rest ≡ front r (item_tokens x rest)
front-item r x rest =
    ap (λ xs. items_front xs rest) (sym (append_assoc (import_items r.imported) r.items (x ∷ []))) ∙ items_front-push (import_items r.imported ++ r.items) x rest

module _ (hosts : List (List ℕ)) (r : Reader) (kept : IsKept hosts r) where
  -- the first term of a sum
  first-term-fits : (s : State) (owner : SumOwner) (place : ℕ) (k : TokenKind) (o : Option Term) → IsSumOwner r owner
      → ((rest : List Pattern) → so_far r s rest ≡ sum_front r owner rest) → TermsAt r place k o
      → FitsAll hosts r s (token place k) (after r (first_term owner place o))
  unfolding TermsAt so_far AtState
  first-term-fits s owner place k None owns same f = fits-none hosts r s (token place k)
  first-term-fits s owner place k (Some x) owns same f =
      fits-some hosts r s (token place k) r (state.AfterTerm (record { owner = owner; sum = record { at = place; first = x; rest = [] } }))
      (record { pattern = term_token x; matches = f.matches; shifts = λ rest. same (term_token x ∷ rest); kept = kept; at_state = (owns, (f.place_is, f.fits, tt)) })

  next-term-fits : (o : OpenSum) (place : ℕ) (k : TokenKind) (x : Option Term) → AtState r (state.Term o) → TermsAt r place k x
      → FitsAll hosts r (state.Term o) (token place k) (after r (next_term o x))
  unfolding TermsAt so_far AtState
  next-term-fits o place k None h f = fits-none hosts r (state.Term o) (token place k)
  next-term-fits o place k (Some x) h f =
      fits-some hosts r (state.Term o) (token place k) r (state.AfterTerm (record o { sum = with_term o.sum x }))
      (record {
        pattern = term_token x;
        matches = f.matches;
        shifts = λ rest. ap (λ ps. sum_front r o.owner (term_token o.sum.first ∷ ps)) (sym (added-push o.sum.rest x rest));
        kept = kept;
        at_state = (h.0, (h.1.0, h.1.1, AreTerms-push (scope r) o.sum.rest x h.1.2 f.fits));
      })

  term-fits : (o : OpenSum) (t : Token) → AtState r (state.Term o) → FitsAll hosts r (state.Term o) t (after r (term_step r o t))
  unfolding term_step
  term-fits o t h = next-term-fits o t.at t.kind (term_of r t) h (term_at-fits r t.at t.kind)

  -- ## Behind a term

  after-declaration-fits : (b : Binding) (x : Sum) (place : ℕ) (k : TokenKind) → CanDeclare (scope r) b.name → IsSum (scope r) x
      → FitsAll hosts r (state.AfterTerm (record { owner = sum_owner.Declaration b; sum = x })) (token place k) (after_declaration r b x k)
  unfolding after_declaration FitsAll so_far AtState
  after-declaration-fits b x place kind.Semicolon h m = record {
    pattern = anywhere kind.Semicolon;
    matches = refl;
    shifts = λ rest. sym (front-item r (item.Declaration b.kind b.name (expression.Sum x)) rest);
    kept = kept-declaration hosts r b (expression.Sum x) kept h m;
    at_state = tt;
  }
  after-declaration-fits b x place k h m = tt

  after-argument-fits : (c : OpenCall) (x : Sum) (place : ℕ) (k : TokenKind) → IsOpenCall r c → IsSum (scope r) x
      → FitsAll hosts r (state.AfterTerm (record { owner = sum_owner.Argument c; sum = x })) (token place k) (after r (after_argument c x k))
  unfolding after_argument FitsAll so_far AtState
  after-argument-fits c x place kind.Comma h m = record {
    pattern = anywhere kind.Comma;
    matches = refl;
    shifts = λ rest. ap (λ ps. owner_front r c.owner (call_front c.call ps)) (sym (before_argument-push c.call.args x rest));
    kept = kept;
    at_state = (h.0, (h.1.0, AreSums-push (scope r) c.call.args x h.1.1 m));
  }
  after-argument-fits c x place kind.RightParen h m = record {
    pattern = anywhere kind.RightParen;
    matches = refl;
    shifts = λ rest. ap (λ ps. owner_front r c.owner (call_front c.call ps)) (sym (arguments-push c.call.args x (anywhere kind.RightParen ∷ rest)));
    kept = kept;
    at_state = (h.0, (h.1.0, AreSums-push (scope r) c.call.args x h.1.1 m));
  }
  after-argument-fits c x place k h m = tt

  sum-end-fits : (owner : SumOwner) (x : Sum) (place : ℕ) (k : TokenKind) → IsSumOwner r owner → IsSum (scope r) x
      → FitsAll hosts r (state.AfterTerm (record { owner = owner; sum = x })) (token place k) (sum_end r owner x k)
  sum-end-fits (sum_owner.Declaration b) x place k h m = after-declaration-fits b x place k h m
  sum-end-fits (sum_owner.Argument c) x place k h m = after-argument-fits c x place k h m

  plus-fits : (o : OpenSum) (place : ℕ) (k : TokenKind) → k ≡ kind.Plus → AtState r (state.AfterTerm o) → Fits hosts r (state.AfterTerm o) (token place k) r (state.Term o)
  unfolding so_far AtState
  plus-fits o place k e h = record { pattern = anywhere kind.Plus; matches = e; shifts = λ rest. refl; kept = kept; at_state = h }

  is_plus-kind : (k : TokenKind) → is_plus k ≡ true → k ≡ kind.Plus
  is_plus-kind kind.Plus e = refl
  is_plus-kind k e = absurd (false≢true e)

  after-term-fits : (o : OpenSum) (t : Token) → AtState r (state.AfterTerm o) → FitsAll hosts r (state.AfterTerm o) t (after_term r o t.kind)
  unfolding after_term AtState
  after-term-fits o t h =
      elim (is_plus t.kind) as (λ b. is_plus t.kind ≡ b → FitsAll hosts r (state.AfterTerm o) t (cond b (Some (r, state.Term o)) (sum_end r o.owner o.sum t.kind))) [
        | true ↦ λ e. fits-some hosts r (state.AfterTerm o) t r (state.Term o) (plus-fits o t.at t.kind (is_plus-kind t.kind e) h)
        | false ↦ λ e. sum-end-fits o.owner o.sum t.at t.kind h.0 h.1
      ] refl

  -- ## Calls

  call-end-fits : (owner : CallOwner) (c : Call) (place : ℕ) (k : TokenKind) → IsCallOwner r owner → IsCall (scope r) c
      → FitsAll hosts r (state.CallEnd (record { owner = owner; call = c })) (token place k) (call_end r (record { owner = owner; call = c }) k)
  unfolding call_end FitsAll so_far AtState
  call-end-fits call_owner.Statement c place kind.Semicolon h m = record {
    pattern = anywhere kind.Semicolon;
    matches = refl;
    shifts = λ rest. ap (λ ps. front r (call_front c ps)) (arguments-close c.args (anywhere kind.Semicolon ∷ rest)) ∙ sym (front-item r (item.Expression c) rest);
    kept = kept-item hosts r c kept m;
    at_state = tt;
  }
  call-end-fits (call_owner.Declaration b) c place kind.Semicolon h m = record {
    pattern = anywhere kind.Semicolon;
    matches = refl;
    shifts = λ rest. ap (λ ps. front r (declaration_front b (call_front c ps))) (arguments-close c.args (anywhere kind.Semicolon ∷ rest))
        ∙ sym (front-item r (item.Declaration b.kind b.name (expression.Call c)) rest);
    kept = kept-declaration hosts r b (expression.Call c) kept h m;
    at_state = tt;
  }
  call-end-fits owner c place k h m = tt

  call-open-fits : (c : OpenCall) (place : ℕ) (k : TokenKind) → AtState r (state.CallOpen c) → FitsAll hosts r (state.CallOpen c) (token place k) (after r (call_open c k))
  unfolding call_open FitsAll so_far AtState
  call-open-fits c place kind.LeftParen h = record { pattern = anywhere kind.LeftParen; matches = refl; shifts = λ rest. refl; kept = kept; at_state = h }
  call-open-fits c place k h = tt

  argument-fits : (c : OpenCall) (t : Token) → AtState r (state.Argument c) → FitsAll hosts r (state.Argument c) t (after r (argument_step r c t))
  unfolding argument_step AtState so_far
  argument-fits c t h = first-term-fits (state.Argument c) (sum_owner.Argument c) t.at t.kind (term_of r t) h (λ rest. refl) (term_at-fits r t.at t.kind)

  is_right_paren-kind : (k : TokenKind) → is_right_paren k ≡ true → k ≡ kind.RightParen
  is_right_paren-kind kind.RightParen e = refl
  is_right_paren-kind k e = absurd (false≢true e)

  first-argument-fits : (c : OpenCall) (t : Token) → AtState r (state.FirstArgument c) → FitsAll hosts r (state.FirstArgument c) t (after r (first_argument r c t))
  unfolding first_argument argument_step AtState so_far
  first-argument-fits c t h =
      fits-branch hosts r (state.FirstArgument c) t (is_right_paren t.kind) (Some (state.CallEnd c)) (first_term (sum_owner.Argument c) t.at (term_of r t))
      (λ e. fits-some hosts r (state.FirstArgument c) t r (state.CallEnd c) (record {
        pattern = anywhere kind.RightParen;
        matches = is_right_paren-kind t.kind e;
        shifts = λ rest. ap (λ xs. owner_front r c.owner (call_front c.call (arguments_front xs (anywhere kind.RightParen ∷ rest)))) (sym h.1);
        kept = kept;
        at_state = h.0;
      }))
      (λ e. first-term-fits (state.FirstArgument c) (sum_owner.Argument c) t.at t.kind (term_of r t) h.0
      (λ rest. ap (λ xs. owner_front r c.owner (call_front c.call (before_argument xs rest))) (sym h.1)) (term_at-fits r t.at t.kind))

  -- ## Declarations and items

  initializer-fits : (b : Binding) (place : ℕ) (k : TokenKind) → CanDeclare (scope r) b.name → FitsAll hosts r (state.Initializer b) (token place k) (after r (initializer_at r b place k))
  unfolding initializer_at AtState so_far
  initializer-fits b place (kind.Name name) h =
      fits-branch hosts r (state.Initializer b) (token place (kind.Name name)) (is_one_of name r.imported) (Some (new_call (call_owner.Declaration b) place name)) (first_term (sum_owner.Declaration b) place (term_at r.declared place (kind.Name name)))
      (λ e. fits-some hosts r (state.Initializer b) (token place (kind.Name name)) r (new_call (call_owner.Declaration b) place name) (record {
        pattern = at place (kind.Name name);
        matches = (refl, refl);
        shifts = λ rest. refl;
        kept = kept;
        at_state = ((h, (e, tt)), refl);
      }))
      (λ e. first-term-fits (state.Initializer b) (sum_owner.Declaration b) place (kind.Name name) (term_at r.declared place (kind.Name name)) h (λ rest. refl) (term_at-fits r place (kind.Name name)))
  initializer-fits b place k h =
      first-term-fits (state.Initializer b) (sum_owner.Declaration b) place k (term_at r.declared place k) h (λ rest. refl) (term_at-fits r place k)

  equals-fits : (b : Binding) (place : ℕ) (k : TokenKind) → CanDeclare (scope r) b.name → FitsAll hosts r (state.DeclarationEquals b) (token place k) (after r (declaration_equals b k))
  unfolding declaration_equals FitsAll so_far AtState
  equals-fits b place kind.Equals h = record { pattern = anywhere kind.Equals; matches = refl; shifts = λ rest. refl; kept = kept; at_state = h }
  equals-fits b place k h = tt

  can-declare-fits : (name : List ℕ) → can_declare r name ≡ true → CanDeclare (scope r) name
  can-declare-fits name e =
      let a : ((is_bindable name && not (is_one_of name r.imported)) ≡ true) × (not (is_one_of name r.declared) ≡ true) = and_cases (is_bindable name && not (is_one_of name r.imported)) (not (is_one_of name r.declared)) e in
      let b : (is_bindable name ≡ true) × (not (is_one_of name r.imported) ≡ true) = and_cases (is_bindable name) (not (is_one_of name r.imported)) a.0 in
      record { bindable = test-bindable name b.0; not_imported = not_cases (is_one_of name r.imported) b.1; not_declared = not_cases (is_one_of name r.declared) a.1 }

  declaration-name-fits : (word : DeclarationKind) (place : ℕ) (k : TokenKind) → FitsAll hosts r (state.DeclarationName word) (token place k) (after r (declaration_name r word k))
  unfolding declaration_name so_far AtState FitsAll
  declaration-name-fits word place (kind.Name name) =
      fits-branch hosts r (state.DeclarationName word) (token place (kind.Name name)) (can_declare r name) (Some (state.DeclarationEquals (record { kind = word; name = name }))) None
      (λ e. fits-some hosts r (state.DeclarationName word) (token place (kind.Name name)) r (state.DeclarationEquals (record { kind = word; name = name })) (record {
        pattern = name_token name;
        matches = refl;
        shifts = λ rest. refl;
        kept = kept;
        at_state = can-declare-fits name e;
      }))
      (λ e. fits-none hosts r (state.DeclarationName word) (token place (kind.Name name)))
  declaration-name-fits word place k = tt

  keyword-fits : (s : State) (word : DeclarationKind) (place : ℕ) (name : List ℕ) → ((rest : List Pattern) → so_far r s rest ≡ front r rest) → name ≡ keyword word
      → Fits hosts r s (token place (kind.Name name)) r (state.DeclarationName word)
  unfolding so_far AtState
  keyword-fits s word place name same e = record {
    pattern = name_token (keyword word);
    matches = ap kind.Name e;
    shifts = λ rest. same (name_token (keyword word) ∷ rest);
    kept = kept;
    at_state = tt;
  }

  item-name-fits : (s : State) (place : ℕ) (name : List ℕ) → ((rest : List Pattern) → so_far r s rest ≡ front r rest)
      → FitsAll hosts r s (token place (kind.Name name)) (after r (item_name r place name))
  unfolding item_name so_far AtState
  item-name-fits s place name same =
      let t : Token = token place (kind.Name name) in
      let const : Option State = cond (bytes_eq name (codes "const")) (Some (state.DeclarationName Const)) None in
      fits-branch hosts r s t (is_one_of name r.imported) (Some (new_call call_owner.Statement place name)) (cond (bytes_eq name (codes "let")) (Some (state.DeclarationName Let)) const)
      (λ e. fits-some hosts r s t r (new_call call_owner.Statement place name) (record {
        pattern = at place (kind.Name name);
        matches = (refl, refl);
        shifts = λ rest. same (at place (kind.Name name) ∷ rest);
        kept = kept;
        at_state = ((tt, (e, tt)), refl);
      }))
      (λ _. fits-branch hosts r s t (bytes_eq name (codes "let")) (Some (state.DeclarationName Let)) const
      (λ e. fits-some hosts r s t r (state.DeclarationName Let) (keyword-fits s Let place name same (same_bytes name (codes "let") e)))
      (λ _. fits-branch hosts r s t (bytes_eq name (codes "const")) (Some (state.DeclarationName Const)) None
      (λ e. fits-some hosts r s t r (state.DeclarationName Const) (keyword-fits s Const place name same (same_bytes name (codes "const") e)))
      (λ _. fits-none hosts r s t)))

  item-fits : (s : State) (place : ℕ) (k : TokenKind) → ((rest : List Pattern) → so_far r s rest ≡ front r rest) → FitsAll hosts r s (token place k) (after r (item_at r place k))
  unfolding item_at FitsAll so_far AtState
  item-fits s place (kind.Name name) same = item-name-fits s place name same
  item-fits s place kind.End same = record { pattern = anywhere kind.End; matches = refl; shifts = λ rest. same (anywhere kind.End ∷ rest); kept = kept; at_state = tt }
  item-fits s place k same = tt

  -- ## The import

  is_import-kind : (k : TokenKind) → is_import k ≡ true → k ≡ kind.Name (codes "import")
  is_import-kind (kind.Name name) e = ap kind.Name (same_bytes name (codes "import") e)
  is_import-kind k e = absurd (false≢true e)

  start-front : r.imported ≡ [] → r.items ≡ [] → (rest : List Pattern) → rest ≡ front r rest
  start-front e f rest = sym (ap (λ ns. items_front (import_items ns ++ r.items) rest) e ∙ ap (λ xs. items_front xs rest) f)

  start-fits : (t : Token) → AtState r state.Start → FitsAll hosts r state.Start t (after r (start_step r t))
  unfolding AtState so_far
  start-fits t h =
      fits-branch hosts r state.Start t (is_import t.kind) (import_step r) (item_step r t)
      (λ e. fits-branch hosts r state.Start t (nat_lt 0 (length r.hosts)) (Some state.ImportOpen) None
      (λ m. fits-some hosts r state.Start t r state.ImportOpen (record {
        pattern = name_token (codes "import");
        matches = is_import-kind t.kind e;
        shifts = λ rest. refl;
        kept = kept;
        at_state = (h.0, h.1, ltb-true 0 (length r.hosts) m);
      }))
      (λ _. fits-none hosts r state.Start t))
      (λ _. item-fits state.Start t.at t.kind (start-front h.0 h.1))

  import-open-fits : (place : ℕ) (k : TokenKind) → AtState r state.ImportOpen → FitsAll hosts r state.ImportOpen (token place k) (after r (import_open k))
  unfolding import_open FitsAll so_far AtState
  import-open-fits place kind.LeftBrace h = record {
    pattern = anywhere kind.LeftBrace;
    matches = refl;
    shifts = λ rest. ap (λ ns. import_front (before_name ns rest)) (sym h.0);
    kept = kept;
    at_state = (h.1, subst (λ ns. length ns < length r.hosts) (sym h.0) h.2);
  }
  import-open-fits place k h = tt

  importing-push : (ns : List (List ℕ)) (n : List ℕ) → (m : List ℕ) × (ms : List (List ℕ)) × (ns ++ n ∷ [] ≡ m ∷ ms)
  importing-push [] n = (n, [], refl)
  importing-push (m ∷ ns) n = (m, ns ++ n ∷ [], refl)

  import-name-some : (place : ℕ) (name : List ℕ) → AtState r state.ImportName → is_one_of name r.hosts ≡ true → is_one_of name r.imported ≡ false
      → Fits hosts r state.ImportName (token place (kind.Name name)) (record r { imported = with_name r.imported name }) state.ImportNext
  unfolding so_far AtState
  import-name-some place name h there new =
      let e : with_name r.imported name ≡ r.imported ++ name ∷ [] = with_name-new r.imported name new in
      let f : (m : List ℕ) × (ms : List (List ℕ)) × (r.imported ++ name ∷ [] ≡ m ∷ ms) = importing-push r.imported name in
      record {
        pattern = name_token name;
        matches = refl;
        shifts = λ rest. ap import_front (sym (ap (λ ns. names_front ns rest) e ∙ names-push r.imported name rest));
        kept = kept-import hosts r name kept h.0 there new;
        at_state = (h.0, f.0, f.1, e ∙ f.2);
      }

  import-name-fits : (place : ℕ) (k : TokenKind) → AtState r state.ImportName → FitsAll hosts r state.ImportName (token place k) (import_name r k)
  unfolding import_name FitsAll
  import-name-fits place (kind.Name name) h =
      fits-cond hosts r state.ImportName (token place (kind.Name name)) (is_one_of name r.hosts && not (is_one_of name r.imported)) (record r { imported = with_name r.imported name }) state.ImportNext
      (λ e. let a : (is_one_of name r.hosts ≡ true) × (not (is_one_of name r.imported) ≡ true) = and_cases (is_one_of name r.hosts) (not (is_one_of name r.imported)) e in
      import-name-some place name h a.0 (not_cases (is_one_of name r.imported) a.1))
  import-name-fits place k h = tt

  import-next-fits : (place : ℕ) (k : TokenKind) → AtState r state.ImportNext → FitsAll hosts r state.ImportNext (token place k) (after r (import_next r k))
  unfolding import_next FitsAll so_far AtState
  import-next-fits place kind.Comma h =
      fits-branch hosts r state.ImportNext (token place kind.Comma) (nat_lt (length r.imported) (length r.hosts)) (Some state.ImportName) None
      (λ e. fits-some hosts r state.ImportNext (token place kind.Comma) r state.ImportName (record {
        pattern = anywhere kind.Comma;
        matches = refl;
        shifts = λ rest. ap (λ ns. import_front (names_front ns (anywhere kind.Comma ∷ rest))) h.3 ∙ ap (λ ns. import_front (before_name ns rest)) (sym h.3);
        kept = kept;
        at_state = (h.0, ltb-true (length r.imported) (length r.hosts) e);
      }))
      (λ _. fits-none hosts r state.ImportNext (token place kind.Comma))
  import-next-fits place kind.RightBrace h = record { pattern = anywhere kind.RightBrace; matches = refl; shifts = λ rest. refl; kept = kept; at_state = h }
  import-next-fits place k h = tt

  import-from-fits : (place : ℕ) (k : TokenKind) → AtState r state.ImportFrom → FitsAll hosts r state.ImportFrom (token place k) (after r (import_from k))
  unfolding import_from FitsAll so_far AtState
  import-from-fits place (kind.Name name) h =
      fits-branch hosts r state.ImportFrom (token place (kind.Name name)) (bytes_eq name (codes "from")) (Some state.ImportHost) None
      (λ e. fits-some hosts r state.ImportFrom (token place (kind.Name name)) r state.ImportHost (record {
        pattern = name_token (codes "from");
        matches = ap kind.Name (same_bytes name (codes "from") e);
        shifts = λ rest. refl;
        kept = kept;
        at_state = h;
      }))
      (λ _. fits-none hosts r state.ImportFrom (token place (kind.Name name)))
  import-from-fits place k h = tt

  import-host-fits : (place : ℕ) (k : TokenKind) → AtState r state.ImportHost → FitsAll hosts r state.ImportHost (token place k) (after r (import_host k))
  unfolding import_host FitsAll so_far AtState
  import-host-fits place (kind.Text units) h =
      fits-branch hosts r state.ImportHost (token place (kind.Text units)) (bytes_eq units (codes "host")) (Some state.ImportEnd) None
      (λ e. fits-some hosts r state.ImportHost (token place (kind.Text units)) r state.ImportEnd (record {
        pattern = anywhere (kind.Text (codes "host"));
        matches = ap kind.Text (same_bytes units (codes "host") e);
        shifts = λ rest. refl;
        kept = kept;
        at_state = h;
      }))
      (λ _. fits-none hosts r state.ImportHost (token place (kind.Text units)))
  import-host-fits place k h = tt

  import-close : (n : List ℕ) (ns : List (List ℕ)) (rest : List Pattern) → r.imported ≡ n ∷ ns → r.items ≡ []
      → import_front (names_front r.imported (anywhere kind.RightBrace ∷ name_token (codes "from") ∷ anywhere (kind.Text (codes "host")) ∷ anywhere kind.Semicolon ∷ rest)) ≡ front r rest
  import-close n ns rest e f =
      let tail : List Pattern = name_token (codes "from") ∷ anywhere (kind.Text (codes "host")) ∷ anywhere kind.Semicolon ∷ rest in
      ap (λ ms. import_front (names_front ms (anywhere kind.RightBrace ∷ tail))) e
      ∙ ap import_front (names-close (n ∷ ns) tail)
      ∙ sym (ap (λ ms. items_front (import_items ms ++ r.items) rest) e ∙ ap (λ xs. items_front (item.Import (n ∷ ns) ∷ xs) rest) f)

  import-end-fits : (place : ℕ) (k : TokenKind) → AtState r state.ImportEnd → FitsAll hosts r state.ImportEnd (token place k) (after r (import_end k))
  unfolding import_end FitsAll so_far AtState
  import-end-fits place kind.Semicolon h = record {
    pattern = anywhere kind.Semicolon;
    matches = refl;
    shifts = λ rest. import-close h.1 h.2 rest h.3 h.0;
    kept = kept;
    at_state = tt;
  }
  import-end-fits place k h = tt

  -- ## All together

  pub step-fits : (s : State) (t : Token) → AtState r s → FitsAll hosts r s t (step r s t)
  unfolding step AtState FitsAll so_far
  step-fits state.Start t h = start-fits t h
  step-fits state.ImportOpen t h = import-open-fits t.at t.kind h
  step-fits state.ImportName t h = import-name-fits t.at t.kind h
  step-fits state.ImportNext t h = import-next-fits t.at t.kind h
  step-fits state.ImportFrom t h = import-from-fits t.at t.kind h
  step-fits state.ImportHost t h = import-host-fits t.at t.kind h
  step-fits state.ImportEnd t h = import-end-fits t.at t.kind h
  step-fits state.Item t h = item-fits state.Item t.at t.kind (λ rest. refl)
  step-fits (state.DeclarationName word) t h = declaration-name-fits word t.at t.kind
  step-fits (state.DeclarationEquals b) t h = equals-fits b t.at t.kind h
  step-fits (state.Initializer b) t h = initializer-fits b t.at t.kind h
  step-fits (state.CallOpen c) t h = call-open-fits c t.at t.kind h
  step-fits (state.FirstArgument c) t h = first-argument-fits c t h
  step-fits (state.Argument c) t h = argument-fits c t h
  step-fits (state.CallEnd c) t h = call-end-fits c.owner c.call t.at t.kind h.0 h.1
  step-fits (state.AfterTerm o) t h = after-term-fits o t h
  step-fits (state.Term o) t h = term-fits o t h
  step-fits state.Done t h = tt

-- ## Runs

-- what holds behind a run: the tokens match what makes the one front the other
pub record Spans (hosts : List (List ℕ)) (r : Reader) (s : State) (ts : List Token) (r' : Reader) (s' : State) : Type 0 where
  pub patterns : List Pattern
  pub matches : MatchesAll ts patterns
  pub shifts : so_far r s patterns ≡ so_far r' s' []
  pub kept : IsKept hosts r'
  pub at_state : AtState r' s'

spans-none : (hosts : List (List ℕ)) (r : Reader) (s : State) (r' : Reader) (s' : State) → IsKept hosts r → AtState r s → (r ≡ r') × (s ≡ s') → Spans hosts r s [] r' s'
spans-none hosts r s r' s' k h e =
    subst (λ x. Spans hosts r s [] x s') e.0 (subst (λ x. Spans hosts r s [] r x) e.1 (record { patterns = []; matches = tt; shifts = refl; kept = k; at_state = h }))

spans-more : (hosts : List (List ℕ)) (r : Reader) (s : State) (t : Token) (ts : List Token) (r1 : Reader) (s1 : State) (r' : Reader) (s' : State)
    → Fits hosts r s t r1 s1 → Spans hosts r1 s1 ts r' s' → Spans hosts r s (t ∷ ts) r' s'
spans-more hosts r s t ts r1 s1 r' s' f m = record {
  patterns = f.pattern ∷ m.patterns;
  matches = (f.matches, m.matches);
  shifts = f.shifts m.patterns ∙ m.shifts;
  kept = m.kept;
  at_state = m.at_state;
}

pub run-spans : (hosts : List (List ℕ)) (ts : List Token) (r : Reader) (s : State) (r' : Reader) (s' : State) → IsKept hosts r → AtState r s → run r s ts ≡ Some (r', s') → Spans hosts r s ts r' s'
run-spans hosts [] r s r' s' k h e = spans-none hosts r s r' s' k h (same_outcome r r' s s' e)
run-spans hosts (t ∷ ts) r s r' s' k h e =
    elim (step r s t) as (λ o. FitsAll hosts r s t o → option_and_then (λ n. run n.0 n.1 ts) o ≡ Some (r', s') → Spans hosts r s (t ∷ ts) r' s') [
      | None ↦ λ f e. cc
      | Some n ↦ λ f e.
          let g : Fits hosts r s t n.0 n.1 = fits-of hosts r s t (Some (n.0, n.1)) n.0 n.1 f refl in
          spans-more hosts r s t ts n.0 n.1 r' s' g (run-spans hosts ts n.0 n.1 r' s' g.kept g.at_state e)
    ] (step-fits hosts r k s t h) e

pub start-kept : (hosts : List (List ℕ)) → IsKept hosts (start hosts)
start-kept hosts = record { hosts_are = refl; imports = tt; items = tt; declared = refl }

pub start-at : (hosts : List (List ℕ)) → AtState (start hosts) state.Start
unfolding AtState
start-at hosts = (refl, refl)

items-well : (hosts names : List (List ℕ)) (xs : List Item) → AreImports hosts [] names → AreItems (record { imported = names; declared = [] }) xs → AreModuleItems hosts (import_items names ++ xs)
items-well hosts (n ∷ ns) xs h m = (h, m)
items-well hosts [] [] h m = m
items-well hosts [] (item.Import names ∷ xs) h m = absurd m
items-well hosts [] (item.Declaration word name init ∷ xs) h m = m
items-well hosts [] (item.Expression c ∷ xs) h m = m

-- what is read to its end is spelled
pub read-spelled : (hosts : List (List ℕ)) (tokens : List Token) (r : Reader) → run (start hosts) state.Start tokens ≡ Some (r, state.Done) → Spells hosts tokens (module_of r)
unfolding so_far
read-spelled hosts tokens r e =
    let m : Spans hosts (start hosts) state.Start tokens r state.Done = run-spans hosts tokens (start hosts) state.Start r state.Done (start-kept hosts) (start-at hosts) e in
    record {
      spelled = subst (MatchesAll tokens) (m.shifts ∙ items-close (import_items r.imported ++ r.items)) m.matches;
      well_formed = items-well hosts r.imported r.items m.kept.imports m.kept.items;
    }
