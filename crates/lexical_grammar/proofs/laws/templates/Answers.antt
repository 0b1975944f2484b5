use Rattle.std.proofs.Common.{subst}
use Rattle.es6_lexer.specs.declared.shape.Element.{Element}
use Rattle.lexical_grammar.specs.Grammar.{IsTemplate}
use Rattle.lexical_grammar.proofs.TemplateLemmas.{template_element_is}
use Rattle.lexical_grammar.proofs.TemplateOnly.{template_only}
use Rattle.lexical_grammar.proofs.laws.templates.Goals as goal

pub returns : goal.returns
returns c = λ first rest e. (λ h. subst (λ (x : Element). IsTemplate 1 rest x) h (template_element_is first rest), λ h. template_only 1 rest e h)
