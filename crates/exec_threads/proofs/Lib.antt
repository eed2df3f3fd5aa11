mod LinesOfSubmitter
mod AllSubmitters
mod AcceptedLines
mod LinesGoRound
mod EndedScript
mod TextOfEnding
