-- A file with a script has no fault, and the faults of a file are all beyond a limit or none is.
use Rattle.std.proofs.Common.{◌≡◌, ℕ, ◌+◌, ◌<◌, ◌≤◌, Bool, true, false, ◌||◌, List, [], ◌∷◌, length, take, drop, map, Option, Some, None, Result, Ok, Err, refl, sym, ap, ◌∙◌, subst, arith}
use Rattle.std.specs.Str.{chars, IsUtf8, IsValidUpTo}
use Rattle.std.proofs.lemmas.List.{take_all}
use Rattle.es5_ast.specs.Early.{IsFirst, Pair5, script_pairs}
use Rattle.es5_ast.specs.Lexical.{width}
use Rattle.es5_ast.specs.declared.tree.Script.{Script}
use Rattle.es5_ast.specs.declared.tree.Stat5.{Stat5}
use Rattle.es5_cursor.specs.Readers.{turns}
use Rattle.es5_early.specs.declared.pair.Pair.{Pair}
use Rattle.es5_early.specs.declared.pair.Rule.{Rule}
use Rattle.es5_early.specs.declared.pair.Rule.TheVariants as rule
use Rattle.es5_early.specs.Pairs.{pair_of}
use Rattle.es5_reading.specs.Programs as programs
use Rattle.es5_text.specs.Answer.{answer_of, by_rule, of_pair}
use Rattle.es5_text.specs.Faults.{Lexed5}
use Rattle.es5_text.specs.Read.{IsAccepted, IsRefused, out_of_memory, not_utf8, unread, paired, statements_of}
use Rattle.es5_text.specs.declared.fault.Fault5.{Fault5}
use Rattle.es5_text.specs.declared.fault.Fault5.TheVariants as parse
use Rattle.es5_tokens.specs.Lexes.{LexesFrom, finished, stopped, skipped, taken, token_at}
use Rattle.es5_tokens.specs.Tokens.{token5}
use Rattle.es5_tokens.specs.declared.token.Token.{Token}
use Rattle.es5_tokens.specs.declared.token.TokenFault.{TokenFault}
use Rattle.run_lines.specs.ScriptFaults.{is_limit, is_limit_there}
use Rattle.run_lines.specs.declared.script_fault.ScriptFault.{ScriptFault}
use Rattle.run_lines.specs.declared.script_fault.ScriptFault.TheVariants.{Missing, ReadFailed, FileTooLong, NotUtf8, At}
use Rattle.run_lines.specs.declared.script_fault.ScriptFinding.{ScriptFinding}
use Rattle.program_runs.specs.Around.{Around}
use Rattle.program_runs.specs.declared.end.RunEnd.{RunEnd}
use Rattle.script_runs.specs.Runs.{HasRun}
use Rattle.script_runs.specs.Scripts.{HasFault, IsScriptAt, finding_of}

same_some : {A : Type 0} {x y : A} → Some x ≡ Some y → x ≡ y
same_some e = cc

-- ---- the parser has one answer

same_lexing : (line : Bool) (at : ℕ) (rest : List ℕ) (a : List Token) (e : ℕ) (f : Option TokenFault) (b : List Token) (d : ℕ) (g : Option TokenFault)
    → LexesFrom line at rest a e f → LexesFrom line at rest b d g → (a ≡ b) × (e ≡ d) × (f ≡ g)
same_lexing _ _ _ _ _ _ _ _ _ (finished line at rest e) (finished _ _ _ f) = (refl, refl, refl)
same_lexing _ _ _ _ _ _ _ _ _ (finished line at rest e) (stopped _ _ _ fault n f) = absurd (cc)
same_lexing _ _ _ _ _ _ _ _ _ (finished line at rest e) (skipped _ _ _ n more tokens end fault f d) = absurd (cc)
same_lexing _ _ _ _ _ _ _ _ _ (finished line at rest e) (taken _ _ _ kind n tokens end fault f d) = absurd (cc)
same_lexing _ _ _ _ _ _ _ _ _ (stopped line at rest fault n e) (finished _ _ _ f) = absurd (cc)
same_lexing _ _ _ _ _ _ _ _ _ (stopped line at rest fault n e) (stopped _ _ _ fault' n' f) =
    let size : n ≡ n' = cc in
    (refl, ap (λ k. at + width (take k rest)) size, cc)
same_lexing _ _ _ _ _ _ _ _ _ (stopped line at rest fault n e) (skipped _ _ _ m more tokens end fault' f d) = absurd (cc)
same_lexing _ _ _ _ _ _ _ _ _ (stopped line at rest fault n e) (taken _ _ _ kind m tokens end fault' f d) = absurd (cc)
same_lexing _ _ _ _ _ _ _ _ _ (skipped line at rest n more tokens end fault e d) (finished _ _ _ f) = absurd (cc)
same_lexing _ _ _ _ _ _ _ _ _ (skipped line at rest n more tokens end fault e d) (stopped _ _ _ fault' m f) = absurd (cc)
same_lexing _ _ _ _ _ _ _ _ _ (skipped line at rest n more tokens end fault e d) (skipped _ _ _ m more' tokens' end' fault' f d') =
    let size : m ≡ n = cc in
    let mark : more' ≡ more = cc in
    let d1 = subst (λ (k : ℕ). LexesFrom (line || more') (at + width (take k rest)) (drop k rest) tokens' end' fault') size d' in
    let d2 = subst (λ (l : Bool). LexesFrom (line || l) (at + width (take n rest)) (drop n rest) tokens' end' fault') mark d1 in
    same_lexing (line || more) (at + width (take n rest)) (drop n rest) tokens end fault tokens' end' fault' d d2
same_lexing _ _ _ _ _ _ _ _ _ (skipped line at rest n more tokens end fault e d) (taken _ _ _ kind m tokens' end' fault' f d') = absurd (cc)
same_lexing _ _ _ _ _ _ _ _ _ (taken line at rest kind n tokens end fault e d) (finished _ _ _ f) = absurd (cc)
same_lexing _ _ _ _ _ _ _ _ _ (taken line at rest kind n tokens end fault e d) (stopped _ _ _ fault' m f) = absurd (cc)
same_lexing _ _ _ _ _ _ _ _ _ (taken line at rest kind n tokens end fault e d) (skipped _ _ _ m more tokens' end' fault' f d') = absurd (cc)
same_lexing _ _ _ _ _ _ _ _ _ (taken line at rest kind n tokens end fault e d) (taken _ _ _ kind' m tokens' end' fault' f d') =
    let size : m ≡ n = cc in
    let same_kind : kind' ≡ kind = cc in
    let d1 = subst (λ (k : ℕ). LexesFrom false (at + width (take k rest)) (drop k rest) tokens' end' fault') size d' in
    let ih = same_lexing false (at + width (take n rest)) (drop n rest) tokens end fault tokens' end' fault' d d1 in (
      ap (λ t. token_at kind at (at + width (take n rest)) line ∷ t) ih.0
          ∙ ap (λ k. token_at k at (at + width (take n rest)) line ∷ tokens') (sym same_kind)
          ∙ ap (λ k. token_at kind' at (at + width (take k rest)) line ∷ tokens') (sym size),
      ih.1,
      ih.2,
    )

one_reading : (bytes : List ℕ) (l m : Lexed5 bytes) → statements_of l ≡ statements_of m
one_reading bytes l m =
    let same = same_lexing false 0 (chars bytes) l.tokens l.end l.fault m.tokens m.end m.fault l.lexes m.lexes in
    ap (λ (ts : List Token). answer_of (programs.script turns (map token5 ts)) l.end l.fault) same.0
    ∙ ap (λ (e : ℕ). answer_of (programs.script turns (map token5 m.tokens)) e l.fault) same.1
    ∙ ap (λ (f : Option TokenFault). answer_of (programs.script turns (map token5 m.tokens)) m.end f) same.2

not_both : (bytes : List ℕ) (at : ℕ) → IsUtf8 bytes → IsValidUpTo bytes at → ⊥
not_both bytes at utf8 valid =
    let within : length bytes ≤ length bytes = omega arith in
    valid.longest (length bytes) valid.short (subst IsUtf8 (sym (take_all (length bytes) bytes within)) utf8)

no_memory : (f : Fault5) (x : ScriptFinding × ℕ) → f ≡ parse.OutOfMemory → finding_of f ≡ Some x → ⊥
no_memory f x e found =
    let none : finding_of parse.OutOfMemory ≡ Some x = subst (λ (z : Fault5). finding_of z ≡ Some x) e found in
    absurd (cc)

-- what the parser accepts it doesn't refuse
accepted_alone : (bytes : List ℕ) (tree : Script) (f : Fault5) (x : ScriptFinding × ℕ) → IsAccepted bytes tree → IsRefused bytes f → finding_of f ≡ Some x → ⊥
accepted_alone bytes tree f x a (out_of_memory e) found = no_memory f x e found
accepted_alone bytes tree f x a (not_utf8 at valid e) found = not_both bytes at a.lexed.utf8 valid
accepted_alone bytes tree f x a (unread lexed e) found =
    let same : Ok tree.statements ≡ Err f = sym a.read ∙ one_reading bytes a.lexed lexed ∙ e in
    absurd (cc)
accepted_alone bytes tree f x a (paired lexed statements pair e first is) found =
    let both : Ok tree.statements ≡ Ok statements = sym a.read ∙ one_reading bytes a.lexed lexed ∙ e in
    let same : tree.statements ≡ statements = cc in
    let none : script_pairs statements ≡ [] = ap script_pairs (sym same) ∙ a.legal in
    let first_of_none : IsFirst (pair_of pair) [] = subst (λ (ps : List Pair5). IsFirst (pair_of pair) ps) none first in
    let below = first_of_none.0.1 in
    absurd (omega (arith, below))

no_pair_is_limit : (r : Rule) (at : ℕ) (x : ScriptFinding × ℕ) → finding_of (by_rule r at) ≡ Some x → is_limit_there x.0 ≡ false
no_pair_is_limit (rule.Early n) at x e = ap (λ (z : ScriptFinding × ℕ). is_limit_there z.0) (sym (same_some e))
no_pair_is_limit (rule.Outside n) at x e = ap (λ (z : ScriptFinding × ℕ). is_limit_there z.0) (sym (same_some e))

pair_is_no_limit : (pair : Pair) (f : Fault5) (x : ScriptFinding × ℕ) → f ≡ of_pair pair → finding_of f ≡ Some x → is_limit_there x.0 ≡ false
pair_is_no_limit pair f x e found = no_pair_is_limit pair.rule pair.at x (subst (λ (z : Fault5). finding_of z ≡ Some x) e found)

-- what the parser refuses is beyond a limit by each of its faults or by none
one_limit : (bytes : List ℕ) (f g : Fault5) (x y : ScriptFinding × ℕ) → IsUtf8 bytes → IsRefused bytes f → IsRefused bytes g → finding_of f ≡ Some x → finding_of g ≡ Some y
    → is_limit_there x.0 ≡ is_limit_there y.0
one_limit bytes f g x y utf8 (out_of_memory e) r found other = absurd (no_memory f x e found)
one_limit bytes f g x y utf8 (not_utf8 at valid e) r found other = absurd (not_both bytes at utf8 valid)
one_limit bytes f g x y utf8 (unread lexed e) (out_of_memory e2) found other = absurd (no_memory g y e2 other)
one_limit bytes f g x y utf8 (unread lexed e) (not_utf8 at valid e2) found other = absurd (not_both bytes at utf8 valid)
one_limit bytes f g x y utf8 (unread lexed e) (unread lexed2 e2) found other =
    let both : Err f ≡ Err g = sym e ∙ one_reading bytes lexed lexed2 ∙ e2 in
    let same : f ≡ g = cc in
    let here : finding_of g ≡ Some x = subst (λ (z : Fault5). finding_of z ≡ Some x) same found in
    ap (λ (z : ScriptFinding × ℕ). is_limit_there z.0) (same_some (sym here ∙ other))
one_limit bytes f g x y utf8 (unread lexed e) (paired lexed2 statements pair e2 first is) found other =
    let both : Err f ≡ Ok statements = sym e ∙ one_reading bytes lexed lexed2 ∙ e2 in
    absurd (cc)
one_limit bytes f g x y utf8 (paired lexed statements pair e first is) (out_of_memory e2) found other = absurd (no_memory g y e2 other)
one_limit bytes f g x y utf8 (paired lexed statements pair e first is) (not_utf8 at valid e2) found other = absurd (not_both bytes at utf8 valid)
one_limit bytes f g x y utf8 (paired lexed statements pair e first is) (unread lexed2 e2) found other =
    let both : Ok statements ≡ Err g = sym e ∙ one_reading bytes lexed lexed2 ∙ e2 in
    absurd (cc)
one_limit bytes f g x y utf8 (paired lexed statements pair e first is) (paired lexed2 statements2 pair2 e2 first2 is2) found other =
    pair_is_no_limit pair f x is found ∙ sym (pair_is_no_limit pair2 g y is2 other)

-- ---- and so has a file

no_fault : (file : List ℕ → Option (List ℕ)) (path : List ℕ) (script : Script) (text : List ℕ) (fault : ScriptFault) → IsScriptAt (Some file) path script text → HasFault (Some file) path fault → ⊥
no_fault file path script text Missing s h = let found = s.holds in absurd (cc)
no_fault file path script text ReadFailed s h = absurd h.2
no_fault file path script text FileTooLong s h =
    let same : s.bytes ≡ h.0 = same_some (sym s.holds ∙ h.1) in
    let sizes : length s.bytes ≡ length h.0 = ap length same in
    let within = s.is_script.within in
    let long = h.2 in
    omega arith
no_fault file path script text (NotUtf8 at) s h =
    let same : s.bytes ≡ h.0 = same_some (sym s.holds ∙ h.1) in
    not_both h.0 at (subst IsUtf8 same s.is_script.utf8) h.2.1
no_fault file path script text (At place finding) s h =
    let same : s.bytes ≡ h.0 = same_some (sym s.holds ∙ h.1) in
    let u = h.2.2 in
    accepted_alone h.0 script u.fault (finding, u.placed.0) (subst (λ (b : List ℕ). IsAccepted b script) same s.is_script.accepted) u.refused u.placed.1

-- the file of a script that was run has none
pub run_has_no_fault : (file : List ℕ → Option (List ℕ)) (path : List ℕ) (steps : ℕ) (old new : Around) (e : RunEnd) (fault : ScriptFault) → HasRun (Some file) path steps old new e → HasFault (Some file) path fault → ⊥
run_has_no_fault file path steps old new e fault r h = no_fault file path r.script r.text fault r.is_script h

-- whether a file's fault is beyond a limit
pub one_status : (file : List ℕ → Option (List ℕ)) (path : List ℕ) (f g : ScriptFault) → HasFault (Some file) path f → HasFault (Some file) path g → is_limit f ≡ is_limit g
one_status file path Missing Missing a b = refl
one_status file path Missing ReadFailed a b = absurd b.2
one_status file path Missing FileTooLong a b = let found = b.1 in absurd (cc)
one_status file path Missing (NotUtf8 at) a b = let found = b.1 in absurd (cc)
one_status file path Missing (At place finding) a b = let found = b.1 in absurd (cc)
one_status file path ReadFailed g a b = absurd a.2
one_status file path FileTooLong Missing a b = let found = a.1 in absurd (cc)
one_status file path FileTooLong ReadFailed a b = absurd b.2
one_status file path FileTooLong FileTooLong a b = refl
one_status file path FileTooLong (NotUtf8 at) a b =
    let sizes : length a.0 ≡ length b.0 = ap length (same_some (sym a.1 ∙ b.1)) in
    let long = a.2 in
    let within = b.2.0 in
    absurd (omega arith)
one_status file path FileTooLong (At place finding) a b =
    let sizes : length a.0 ≡ length b.0 = ap length (same_some (sym a.1 ∙ b.1)) in
    let long = a.2 in
    let within = b.2.0 in
    absurd (omega arith)
one_status file path (NotUtf8 at) Missing a b = let found = a.1 in absurd (cc)
one_status file path (NotUtf8 at) ReadFailed a b = absurd b.2
one_status file path (NotUtf8 at) FileTooLong a b =
    let sizes : length a.0 ≡ length b.0 = ap length (same_some (sym a.1 ∙ b.1)) in
    let within = a.2.0 in
    let long = b.2 in
    absurd (omega arith)
one_status file path (NotUtf8 at) (NotUtf8 at2) a b = refl
one_status file path (NotUtf8 at) (At place finding) a b =
    absurd (not_both b.0 at b.2.1 (subst (λ (x : List ℕ). IsValidUpTo x at) (same_some (sym a.1 ∙ b.1)) a.2.1))
one_status file path (At place finding) Missing a b = let found = a.1 in absurd (cc)
one_status file path (At place finding) ReadFailed a b = absurd b.2
one_status file path (At place finding) FileTooLong a b =
    let sizes : length a.0 ≡ length b.0 = ap length (same_some (sym a.1 ∙ b.1)) in
    let within = a.2.0 in
    let long = b.2 in
    absurd (omega arith)
one_status file path (At place finding) (NotUtf8 at) a b =
    absurd (not_both b.0 at (subst IsUtf8 (same_some (sym a.1 ∙ b.1)) a.2.1) b.2.1)
one_status file path (At place finding) (At place2 finding2) a b =
    let same : a.0 ≡ b.0 = same_some (sym a.1 ∙ b.1) in
    let u = a.2.2 in
    let v = b.2.2 in
    one_limit b.0 u.fault v.fault (finding, u.placed.0) (finding2, v.placed.0) b.2.1 (subst (λ (x : List ℕ). IsRefused x u.fault) same u.refused) v.refused u.placed.1 v.placed.1
