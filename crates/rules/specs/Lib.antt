-- The rules as one rule, the binders in scope, and what the code of each rule is asked and what it ensures. The
-- contracts of `rules`, `results` and `typing` share these names:
--
--   sig, table      the signature's words, and for each constant the place of its type in them; Σ: the constants' types
--   proof           the words of the term that is checked
--   ws              the workspace: a type that comes out stands at its front, the words kept stand at its end
--   used, floor     how many words are kept; the last `floor` of them are of no binder in scope, those before are the
--                   entries of the binders, the nearest first; Γ: the binders' types
--   at, next, end   where a node begins in the proof, where its second child begins, and where the node ends
--   o, a, b, A, B   the node's own word, its first and second child, and their types
--   n, m            the words of the first and of the second child's type
--   left            how deep the term at `at` may nest
--   old, new, r     the workspace before and after a call, and what the call answers
pub mod Rule
pub mod Scope
pub mod Form
pub mod Variable
pub mod Atoms
pub mod Enter
