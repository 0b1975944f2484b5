-- Templates, accesses and calls are read one by one.
use Rattle.std.proofs.Common.{◌≡◌, ℕ, suc, ◌+◌, ◌-◌, ◌<◌, ◌≤◌, Bool, true, false, List, [], ◌∷◌, ◌++◌, Option, Some, None, refl, ap, ◌∙◌}
use Rattle.es6_lexer.specs.declared.token.Punctuator.TheVariants as marks
use Rattle.es6_ast.specs.declared.tree.Link.{Link}
use Rattle.es6_ast.specs.declared.tree.Link.TheVariants as link
use Rattle.es6_ast.specs.declared.tree.Template.{Template}
use Rattle.es6_ast.specs.declared.settings.Flags.{Flags}
use Rattle.es6_ast.specs.declared.settings.Stop.{Stop}
use Rattle.es6_ast.specs.declared.settings.Stop.TheVariants.{Endless}
use Rattle.es6_ast.specs.Tokens.{Filled, begin_of}
use Rattle.es6_reading.specs.Parser.{Input, Inner, Outcome, Took, Fault, Parser, after, returns, on, mark, on_group}
use Rattle.es6_reading.specs.Expressions.{links, member_link, index_link, call_link}
use Rattle.es6_cursor.specs.Readers.{turns, before}
use Rattle.es6_cursor.proofs.Loops.{turn, no_turn, one_before, ended, then}
use Rattle.es6_read_primaries.specs.Links.{one_template, one_call, one_link_tail, one_link}
use Rattle.es6_read_primaries.proofs.Follows.{halts, after_choice, after_on, after_group, after_template, on_one_template, off_one_template, one_template_fault}

-- ## Templates among links (12.3)

pub tag_is : (i : Inner) (f : Flags) (calls : Bool) (at : ℕ) (c d : Input) (m : Template) → one_template i f at c ≡ Took (Some m) d → one_link_tail i f calls at c ≡ Took (Some (link.Tagged m)) d
unfolding one_link_tail
tag_is i f calls at c d m h = on_one_template i f at _ _ c d m h

pub tag_none : (i : Inner) (f : Flags) (calls : Bool) (at : ℕ) (c d : Input) → calls ≡ false → one_template i f at c ≡ Took None d → one_link_tail i f calls at c ≡ Took None d
unfolding one_link_tail
tag_none i f true at c d e h = absurd (cc)
tag_none i f false at c d e h = off_one_template i f at _ _ c d h

pub tag_call : (i : Inner) (f : Flags) (calls : Bool) (at : ℕ) (c d : Input) → calls ≡ true → one_template i f at c ≡ Took None d → one_link_tail i f calls at c ≡ one_call i f at d
unfolding one_link_tail
tag_call i f true at c d e h = off_one_template i f at _ _ c d h
tag_call i f false at c d e h = absurd (cc)

pub tag_fault : (i : Inner) (f : Flags) (calls : Bool) (at : ℕ) (c : Input) (stop : Stop) (ts : List Filled) → one_template i f at c ≡ Fault stop ts → one_link_tail i f calls at c ≡ Fault stop ts
unfolding one_link_tail
tag_fault i f calls at c stop ts h = one_template_fault i f at _ _ c stop ts h

pub one_link_is : (i : Inner) (f : Flags) (calls : Bool) (c : Input) → one_link i f calls c
    ≡ on (mark marks.Dot) (λ _ d. after (member_link (begin_of c.tokens) d) (λ l. returns (Some l))) (on_group i marks.LeftBracket (λ d. after (index_link i f (begin_of c.tokens) d) (λ l. returns (Some l))) (one_link_tail i f calls (begin_of c.tokens))) c
unfolding one_link
one_link_is i f calls c = refl

-- ## Links

-- what follows a link, or the end of the list
pub linked : Parser (List Link) → Option Link → Parser (List Link)
linked more None = returns []
linked more (Some l) = λ c. after (more c) (λ ls. returns (l ∷ ls))

one_of : (o : Outcome Link) (more : Parser (List Link)) → after o (λ l c. after (more c) (λ ls. returns (l ∷ ls))) ≡ after (after o (λ l. returns (Some l))) (linked more)
unfolding linked
one_of (Took l c) more = refl
one_of (Fault stop ts) more = refl

step : (i : Inner) (f : Flags) (calls : Bool) (m : ℕ) (c : Input) → links i f calls (suc m) c ≡ after (one_link i f calls c) (linked (links i f calls m))
unfolding links one_link one_link_tail linked
step i f calls m c =
    let k = linked (links i f calls m) in
    after_on k (mark marks.Dot) _ _ _ _ c (λ t d. one_of (member_link _ d) (links i f calls m))
    (after_group k i marks.LeftBracket _ _ _ _ c (λ d. one_of (index_link i f _ d) (links i f calls m))
    (after_template k i f _ _ _ _ _ c (λ m d. refl)
    (after_choice k calls _ _ _ _ c (after_group k i marks.LeftParenthesis _ _ _ _ c (λ d. one_of (call_link i f _ d) (links i f calls m)) refl) refl)))

pub links_turn : (i : Inner) (f : Flags) (calls : Bool) (n : ℕ) (c : Input) → n < turns → links i f calls (turns - n) c ≡ after (one_link i f calls c) (linked (links i f calls (turns - (n + 1))))
links_turn i f calls n c h = ap (λ m. links i f calls m c) (turn n h) ∙ step i f calls (turns - (n + 1)) c

pub links_more : (i : Inner) (f : Flags) (calls : Bool) (n : ℕ) (front : List Link) (c d : Input) (l : Link) → n < turns → one_link i f calls c ≡ Took (Some l) d → before front (links i f calls (turns - n) c) ≡ before (front ++ l ∷ []) (links i f calls (turns - (n + 1)) d)
unfolding linked
links_more i f calls n front c d l lt read = ap (before front) (links_turn i f calls n c lt ∙ then _ read) ∙ one_before front l (links i f calls (turns - (n + 1)) d)

pub links_end : (i : Inner) (f : Flags) (calls : Bool) (n : ℕ) (front : List Link) (c d : Input) → n < turns → one_link i f calls c ≡ Took None d → before front (links i f calls (turns - n) c) ≡ Took front d
unfolding linked
links_end i f calls n front c d lt read = ended front (links_turn i f calls n c lt ∙ then _ read)

pub links_fault : (i : Inner) (f : Flags) (calls : Bool) (n : ℕ) (front : List Link) (c : Input) (stop : Stop) (ts : List Filled) → n < turns → one_link i f calls c ≡ Fault stop ts → before front (links i f calls (turns - n) c) ≡ Fault stop ts
links_fault i f calls n front c stop ts lt read = ap (before front) (links_turn i f calls n c lt ∙ halts _ read)

pub links_stop : (i : Inner) (f : Flags) (calls : Bool) (n : ℕ) (front : List Link) (c : Input) → turns ≤ n → before front (links i f calls (turns - n) c) ≡ Fault Endless c.tokens
unfolding links
links_stop i f calls n front c h = ap (λ m. before front (links i f calls m c)) (no_turn n h)
