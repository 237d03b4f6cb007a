use Rattle.std.proofs.Common.{subst}
use Rattle.vs_outside.specs.Patterns.{IsNoPattern}
use Rattle.vs_outside.proofs.PatternLemmas.{syntax_is_none}
use Rattle.vs_outside.proofs.built_patterns.BuiltPatterns.pattern.Goals as goal

pub returns-in-Err-Syntax-clause-syntax : goal.returns-in-Err-Syntax-clause-syntax
returns-in-Err-Syntax-clause-syntax c =
    λ _. subst IsNoPattern c.in-Ok.ensures.cases.0 (syntax_is_none c.in-Ok.source.now c.in-Err-Syntax.field-0 c.in-Err-Syntax.field-0-0 c.in-Err-Syntax.field-0-is c.in-Err-Syntax.ensures.refused c.in-Err-Syntax.ensures.kind)
