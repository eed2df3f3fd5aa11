mod AnswersOfBrpc
